use Rattle.std.proofs.Common.{◌≡◌, ℕ, List, [], ◌∷◌, ◌++◌, sym, ap, append_assoc, map, string_bytes}
use Rattle.tql_spec.specs.Text.{line}
use Rattle.tql_result_laws.specs.Json.{parted}
use Rattle.tql_result_laws.specs.Jsonl.{row_members}
use Rattle.tql_value.specs.Views.{row_of}
use Rattle.tql_result.proofs.Pushing.{joined, ended, as_text}
use Rattle.tql_result_forms.proofs.jsonl.push_object.Goals as goal

-- the line of an object, split into its members and its ends
line_parts : (members : List ℕ) → 123 ∷ (members ++ (125 ∷ 10 ∷ [])) ≡ line (123 ∷ (members ++ (125 ∷ [])))
line_parts members = ap (λ l. 123 ∷ l) (sym (append_assoc members (125 ∷ []) (10 ∷ [])))

pub returns-in_err-push_all : goal.returns-in_err-push_all
returns-in_err-push_all g c =
    as_text (line_parts (parted (row_members (map string_bytes c.args.names.now) (row_of c.args.cells.now))))
    (ended _ _ c.from_residual.ensures.0 c.in_err-push_all.ensures)

pub returns-in_err-push_members : goal.returns-in_err-push_members
returns-in_err-push_members g c =
    as_text (line_parts (parted (row_members (map string_bytes c.args.names.now) (row_of c.args.cells.now))))
    (joined c.in_ok-push_all.ensures
    (ended _ _ c.from_residual-in_err-push_members.ensures.0 c.in_err-push_members.ensures))

pub returns : goal.returns
returns g c =
    as_text (line_parts (parted (row_members (map string_bytes c.args.names.now) (row_of c.args.cells.now))))
    (joined c.in_ok-push_all.ensures (joined c.in_ok-push_members.ensures c.push_all-2.ensures))
