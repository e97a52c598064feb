-- Columns, periods, keys and references, element by element.
use Rattle.std.specs.Prelude.{◌≡◌, refl, List, [], ◌∷◌, ◌++◌, Some, None}
use Rattle.std.proofs.Common.{ap, ◌∙◌, sym, append_assoc}
use Rattle.tql_spec.specs.Syntax.{ColumnTree, Element, ColumnElement, PeriodElement, ConstraintElement, KeyTree}
use Rattle.tql_spec.specs.Syntax.{ForeignTree, CheckTree}
use Rattle.tql_spec.specs.Creation.{PeriodPart, columns_of, application_parts, system_parts, constraints_of}
use Rattle.tql_bind_draft.specs.Drafts.{KeyPart, ReferencePart, key_parts, reference_parts}

columns_split : (e : Element) (es : List Element) → columns_of (e ∷ es) ≡ columns_of (e ∷ []) ++ columns_of es
columns_split (ColumnElement c) es = refl
columns_split (PeriodElement n s t) es = refl
columns_split (ConstraintElement c) es = refl

applications_split : (e : Element) (es : List Element)
    → application_parts (e ∷ es) ≡ application_parts (e ∷ []) ++ application_parts es
applications_split (ColumnElement c) es = refl
applications_split (PeriodElement None s t) es = refl
applications_split (PeriodElement (Some n) s t) es = refl
applications_split (ConstraintElement c) es = refl

systems_split : (e : Element) (es : List Element) → system_parts (e ∷ es) ≡ system_parts (e ∷ []) ++ system_parts es
systems_split (ColumnElement c) es = refl
systems_split (PeriodElement None s t) es = refl
systems_split (PeriodElement (Some n) s t) es = refl
systems_split (ConstraintElement c) es = refl

-- with one more element, the columns are those so far and those of the element
pub columns_more : (cs : List ColumnTree) (e : Element) (es : List Element)
    → (cs ++ columns_of (e ∷ [])) ++ columns_of es ≡ cs ++ columns_of (e ∷ es)
columns_more cs e es = append_assoc cs (columns_of (e ∷ [])) (columns_of es)
    ∙ ap (λ (xs : List ColumnTree). cs ++ xs) (sym (columns_split e es))

-- the same for application periods
pub applications_more : (ps : List PeriodPart) (e : Element) (es : List Element)
    → (ps ++ application_parts (e ∷ [])) ++ application_parts es ≡ ps ++ application_parts (e ∷ es)
applications_more ps e es = append_assoc ps (application_parts (e ∷ [])) (application_parts es)
    ∙ ap (λ (xs : List PeriodPart). ps ++ xs) (sym (applications_split e es))

-- the same for system periods
pub systems_more : (ps : List PeriodPart) (e : Element) (es : List Element)
    → (ps ++ system_parts (e ∷ [])) ++ system_parts es ≡ ps ++ system_parts (e ∷ es)
systems_more ps e es = append_assoc ps (system_parts (e ∷ [])) (system_parts es)
    ∙ ap (λ (xs : List PeriodPart). ps ++ xs) (sym (systems_split e es))

keys_split : (e : Element) (es : List Element) → key_parts (constraints_of (e ∷ es))
    ≡ key_parts (constraints_of (e ∷ [])) ++ key_parts (constraints_of es)
keys_split (ColumnElement c) es = refl
keys_split (PeriodElement n s t) es = refl
keys_split (ConstraintElement (KeyTree b n ns p)) es = refl
keys_split (ConstraintElement (ForeignTree c n p)) es = refl
keys_split (ConstraintElement (CheckTree c)) es = refl

references_split : (e : Element) (es : List Element) → reference_parts (constraints_of (e ∷ es))
    ≡ reference_parts (constraints_of (e ∷ [])) ++ reference_parts (constraints_of es)
references_split (ColumnElement c) es = refl
references_split (PeriodElement n s t) es = refl
references_split (ConstraintElement (KeyTree b n ns p)) es = refl
references_split (ConstraintElement (ForeignTree c n p)) es = refl
references_split (ConstraintElement (CheckTree c)) es = refl

-- the same for keys
pub keys_more : (ks : List KeyPart) (e : Element) (es : List Element)
    → (ks ++ key_parts (constraints_of (e ∷ []))) ++ key_parts (constraints_of es)
    ≡ ks ++ key_parts (constraints_of (e ∷ es))
keys_more ks e es = append_assoc ks (key_parts (constraints_of (e ∷ []))) (key_parts (constraints_of es))
    ∙ ap (λ (xs : List KeyPart). ks ++ xs) (sym (keys_split e es))

-- the same for references
pub references_more : (fs : List ReferencePart) (e : Element) (es : List Element)
    → (fs ++ reference_parts (constraints_of (e ∷ []))) ++ reference_parts (constraints_of es)
    ≡ fs ++ reference_parts (constraints_of (e ∷ es))
references_more fs e es = append_assoc fs (reference_parts (constraints_of (e ∷ [])))
    (reference_parts (constraints_of es))
    ∙ ap (λ (xs : List ReferencePart). fs ++ xs) (sym (references_split e es))
