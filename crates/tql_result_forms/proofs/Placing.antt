-- The text of an answer, split into its beginning, its members, and its end.
use Rattle.std.proofs.Common.{◌≡◌, ℕ, List, [], ◌∷◌, ◌++◌, append_assoc, decimal, sym, ◌∙◌, ap, refl}
use Rattle.std.proofs.lemmas.Grind.{flat_map-append}
use Rattle.std.proofs.lemmas.List.{append-nil}
use Rattle.std.specs.Prelude.{codes, Option, Some, None}
use Rattle.std.specs.List.{flat_map}
use Rattle.tql_spec.specs.Answer.{Answer}
use Rattle.tql_result_forms.specs.Diagnostics.{place_members, constraint_members}
use Rattle.tql_result_laws.specs.Json.{string, member, known, Fault, fault_members, members_of}
use Rattle.tql_result_laws.specs.Json.{json_text}
use Rattle.tql_spec.specs.Text.{line}

-- the beginning of an object: the statement number and the line
abbrev pub place_text : ℕ → ℕ → List ℕ
place_text statement at =
    123 ∷ member (codes "statement") (decimal statement) ++ 44 ∷ 32 ∷ member (codes "line") (decimal at)

-- members, each after a comma
abbrev pub members_text : List (List ℕ) → List ℕ
members_text members = flat_map (λ m. 44 ∷ 32 ∷ m) members

-- three parts of a line
three_parts : (first second others : List ℕ)
    → (123 ∷ first ++ 44 ∷ 32 ∷ second) ++ (others ++ (125 ∷ 10 ∷ []))
    ≡ line (123 ∷ (first ++ ((44 ∷ 32 ∷ second) ++ others)) ++ 125 ∷ [])
three_parts first second others = simp append_assoc

pub json_parts : (statement at : ℕ) (fault : Fault) (a : Answer)
    → place_text statement at ++ (members_text (members_of fault a) ++ (125 ∷ 10 ∷ []))
    ≡ json_text statement at fault a
json_parts statement at fault a =
    three_parts (member (codes "statement") (decimal statement)) (member (codes "line") (decimal at))
    (members_text (members_of fault a))

-- a member, split into its name and its value
pub member_parts : (name value : List ℕ)
    → (44 ∷ 32 ∷ (string name ++ (58 ∷ 32 ∷ []))) ++ value ≡ members_text (member name value ∷ [])
member_parts name value =
    ap (λ l. 44 ∷ 32 ∷ l) (append_assoc (string name) (58 ∷ 32 ∷ []) value)
    ∙ sym (append-nil (44 ∷ 32 ∷ member name value))

-- an optional member before others
known_parts : {A : Type 0} (name : List ℕ) (text : A → List ℕ) (x : Option A) (ms : List (List ℕ))
    → members_text (known name text x []) ++ members_text ms ≡ members_text (known name text x ms)
known_parts name text None ms = refl
known_parts name text (Some a) ms =
    ap (λ l. l ++ members_text ms) (append-nil (44 ∷ 32 ∷ member name (text a)))

-- three optional members
pub three_known : {A B C : Type 0} (n o p : List ℕ) (f : A → List ℕ) (g : B → List ℕ) (h : C → List ℕ) (x : Option A)
    (y : Option B) (z : Option C)
    → members_text (known n f x []) ++ (members_text (known o g y []) ++ members_text (known p h z []))
    ≡ members_text (known n f x (known o g y (known p h z [])))
three_known n o p f g h x y z =
    ap (λ l. members_text (known n f x []) ++ l) (known_parts o g y (known p h z []))
    ∙ known_parts n f x (known o g y (known p h z []))

known_append : {A : Type 0} (name : List ℕ) (text : A → List ℕ) (x : Option A) (ms ns : List (List ℕ))
    → known name text x ms ++ ns ≡ known name text x (ms ++ ns)
known_append name text None ms ns = refl
known_append name text (Some a) ms ns = refl

-- the members of a fault
fault_is : (f : Fault) → place_members f ++ constraint_members f ≡ fault_members f
fault_is f =
    let hint = known (codes "hint") string f.hint in
    let detail = known (codes "detail") string f.detail in
    let column = known (codes "column") decimal f.column in
    known_append (codes "column") decimal f.column (detail (hint [])) (constraint_members f)
    ∙ ap column (known_append (codes "detail") string f.detail (hint []) (constraint_members f)
    ∙ ap detail (known_append (codes "hint") string f.hint [] (constraint_members f)))

-- members, followed by those of a fault
pub fault_parts : (members : List (List ℕ)) (f : Fault)
    → members_text members ++ (members_text (place_members f) ++ members_text (constraint_members f))
    ≡ members_text (members ++ fault_members f)
fault_parts members f =
    let each = λ (m : List ℕ). 44 ∷ 32 ∷ m in
    ap (λ l. members_text members ++ l)
    (sym (flat_map-append each (place_members f) (constraint_members f)) ∙ ap members_text (fault_is f))
    ∙ sym (flat_map-append each members (fault_members f))
