-- How far a file that is no beginning of a journal is one.
use Rattle.std.specs.Prelude.{◌+◌, ◌-◌, ◌^◌, min}
use Rattle.tql_journal.specs.declared.found.Found.{Found}
use Rattle.tql_journal_file.specs.declared.fault.Damage.{Damage}

-- the statements and bytes of the longest journal that it begins with, and the line after these, from 1
abbrev pub damage_of : Found → Damage
damage_of found = record {
  line = min (found.lines + 1) (2 ^ 64 - 1);
  statements = found.statements;
  end = found.end;
}
