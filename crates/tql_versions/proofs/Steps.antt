-- One loop step over a list of versions.
use Rattle.std.proofs.Common.{◌≡◌, ◌<◌, ℕ, zero, suc, ◌+◌, List, [], ◌∷◌, ◌++◌, drop, set, get_or, length, append_assoc}
use Rattle.std.proofs.Common.{sym, ap, ◌∙◌, arith}
use Rattle.std.specs.Prelude.{ℤ}
use Rattle.std.proofs.lemmas.List.{at_drop_more, map-set, map-append, get_or-map, length-map}
use Rattle.tql_spec.specs.Definition.{Version}
use Rattle.tql_versions.specs.Changes.{ended, close_at, closing, emptied, taken, moved_out, nothing}
use Rattle.tql_versions.specs.Views.{version_of, versions_of}
use Rattle.tql_versions.specs.declared.kept.Kept.{Kept}

close_set : (m : ℤ) (vs : List Version) (i : ℕ) (v d : Version) → i < length vs → v ≡ ended m (get_or vs i d)
    → set vs i v ≡ close_at m i vs
close_set m [] i v d within is = absurd (omega arith)
close_set m (x ∷ vs) zero v d within is = ap (λ y. y ∷ vs) is
close_set m (x ∷ vs) (suc i) v d within is = ap (λ ys. x ∷ ys) (close_set m vs i v d (omega arith) is)

pub closing_step : (m : ℤ) (removed : List ℕ) (k : ℕ) (vs : List Kept) (i : ℕ) (v new : Kept) (end : List Version)
    → k < length removed → i ≡ get_or removed k 0 → i < length vs → v ≡ get_or vs i v
    → version_of new ≡ ended m (version_of v) → closing m (drop k removed) (versions_of vs) ≡ end
    → closing m (drop (k + 1) removed) (versions_of (set vs i new)) ≡ end
closing_step m removed k vs i v new end inside at within is closed invariant =
    ap (closing m (drop (k + 1) removed)) (map-set version_of vs i new
    ∙ close_set m (versions_of vs) i (version_of new) (version_of v) (simp length-map within)
    (closed ∙ ap (λ x. ended m (version_of x)) is
    ∙ ap (ended m) (sym (get_or-map version_of vs i v (version_of v) within))))
    ∙ sym (at_drop_more (λ is'. closing m is' (versions_of vs)) removed k 0 inside
    ∙ ap (λ j. closing m (drop (k + 1) removed) (close_at m j (versions_of vs))) (sym at))
    ∙ invariant

pub emptied_step : (m : ℤ) (is : List ℕ) (k : ℕ) (vs : List Kept) (i : ℕ) (new : Kept) (end : List Version)
    → k < length is → i ≡ get_or is k 0 → version_of new ≡ moved_out m → emptied m (drop k is) (versions_of vs) ≡ end
    → emptied m (drop (k + 1) is) (versions_of (set vs i new)) ≡ end
emptied_step m is k vs i new end inside at made invariant =
    ap (emptied m (drop (k + 1) is)) (map-set version_of vs i new ∙ ap (set (versions_of vs) i) made)
    ∙ ap (λ j. emptied m (drop (k + 1) is) (set (versions_of vs) j (moved_out m))) at
    ∙ sym (at_drop_more (λ is'. emptied m is' (versions_of vs)) is k 0 inside)
    ∙ invariant

pub taken_step : (m : ℤ) (is : List ℕ) (k : ℕ) (vs closed more : List Kept) (i : ℕ) (v r new : Kept)
    (end : List Version) → k < length is → i ≡ get_or is k 0 → i < length vs → v ≡ get_or vs i v
    → version_of new ≡ moved_out m → version_of r ≡ version_of v → more ≡ closed ++ r ∷ []
    → versions_of closed ++ taken m (drop k is) (versions_of vs) ≡ end
    → versions_of more ++ taken m (drop (k + 1) is) (versions_of (set vs i new)) ≡ end
taken_step m is k vs closed more i v r new end inside at within read made same pushed invariant =
    ap (λ ks. versions_of ks ++ taken m (drop (k + 1) is) (versions_of (set vs i new))) pushed
    ∙ ap (λ xs. xs ++ taken m (drop (k + 1) is) (versions_of (set vs i new))) (map-append version_of closed (r ∷ []))
    ∙ append_assoc (versions_of closed) (version_of r ∷ []) (taken m (drop (k + 1) is) (versions_of (set vs i new)))
    ∙ ap (λ x. versions_of closed ++ (x ∷ taken m (drop (k + 1) is) (versions_of (set vs i new)))) (same
    ∙ ap version_of read ∙ sym (get_or-map version_of vs i v nothing within))
    ∙ ap (λ xs. versions_of closed ++ (get_or (versions_of vs) i nothing ∷ taken m (drop (k + 1) is) xs))
    (map-set version_of vs i new ∙ ap (set (versions_of vs) i) made)
    ∙ ap (λ j. versions_of closed ++
    (get_or (versions_of vs) j nothing ∷ taken m (drop (k + 1) is) (set (versions_of vs) j (moved_out m)))) at
    ∙ sym (at_drop_more (λ is'. versions_of closed ++ taken m is' (versions_of vs)) is k 0 inside)
    ∙ invariant
