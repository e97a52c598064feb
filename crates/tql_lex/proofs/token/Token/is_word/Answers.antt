use Rattle.std.proofs.Common.{ap}
use Rattle.tql_spec.specs.FirstToken.{token_with}
use Rattle.tql_lex.specs.declared.token.TokenKind.{TokenKind}
use Rattle.tql_lex.specs.Tokens.{token_of, sort_of}
use Rattle.tql_lex.proofs.WordLemmas.{word_tells}
use Rattle.tql_lex.proofs.token.Token.is_word.Goals as goal

pub returns-in-Word-clause-test : goal.returns-in-Word-clause-test
returns-in-Word-clause-test c =
    let t = c.args.self.now in
    word_tells c.is_folded.result c.args.word.now t.text.now c.as_bytes.result.now c.as_bytes-in-Word.result.now
    (token_of t) c.is_folded.ensures c.as_bytes.ensures.value c.as_bytes-in-Word.ensures.value
    (ap (λ (k : TokenKind). token_with (sort_of k) t.text.now) c.in-Word.is)
