-- The command line is that of the matches.
use Rattle.std.proofs.Common.{codes, ◌∙◌}
use Rattle.clap.specs.Words.{found_of}
use Rattle.clap.proofs.WalkLemmas.{first_value-rows, one_text-rows}
use Rattle.tql_options.proofs.options.line_of.Goals as goal

pub returns : goal.returns
returns c =
    let found = found_of c.args.matches.now in
    let check = one_text-rows found (codes "check") in
    let bail = one_text-rows found (codes "bail") in
    let interactive = one_text-rows found (codes "interactive") in
    let quiet = one_text-rows found (codes "quiet") in
    let plans = one_text-rows found (codes "plans") in
    let echo = one_text-rows found (codes "echo") in
    let titles = one_text-rows found (codes "titles") in
    record {
      check = record {
        set = λ e. c.get_flag.ensures.value (check ∙ e);
        clear = λ e. c.get_flag.ensures.other (check ∙ e);
      };
      bail = record {
        set = λ e. c.get_flag-2.ensures.value (bail ∙ e);
        clear = λ e. c.get_flag-2.ensures.other (bail ∙ e);
      };
      interactive = record {
        set = λ e. c.get_flag-3.ensures.value (interactive ∙ e);
        clear = λ e. c.get_flag-3.ensures.other (interactive ∙ e);
      };
      quiet = record {
        set = λ e. c.get_flag-4.ensures.value (quiet ∙ e);
        clear = λ e. c.get_flag-4.ensures.other (quiet ∙ e);
      };
      plans = record {
        set = λ e. c.get_flag-5.ensures.value (plans ∙ e);
        clear = λ e. c.get_flag-5.ensures.other (plans ∙ e);
      };
      echo = record {
        set = λ e. c.get_flag-6.ensures.value (echo ∙ e);
        clear = λ e. c.get_flag-6.ensures.other (echo ∙ e);
      };
      titles = record {
        set = λ e. c.get_flag-7.ensures.value (titles ∙ e);
        clear = λ e. c.get_flag-7.ensures.other (titles ∙ e);
      };
      memory = c.get_str.ensures ∙ first_value-rows found (codes "memory");
      format = c.get_str-2.ensures ∙ first_value-rows found (codes "format");
      journal = c.get_str-3.ensures ∙ first_value-rows found (codes "journal");
      verify = c.get_str-4.ensures ∙ first_value-rows found (codes "verify");
      commands = c.in_ok-commands.ensures;
      scripts = c.in_ok-scripts.ensures;
    }
