use Rattle.std.proofs.Common.{◌≡◌, ℤ, Option, None, Some, rules}
use Rattle.std.proofs.Common.{sym, ap, subst, ◌∙◌}
use Rattle.std.proofs.Math.Facts.{to_z-of_z}
use Rattle.tql_store.specs.StoreModel.{StoreModel}
use Rattle.tql_versions.specs.Changes.{Under}
use Rattle.tql_store.specs.Orderly.{IsOrderly}
use Rattle.tql_store.proofs.Turning.{begin-orderly}
use Rattle.tql_store.proofs.StoreLaws.{begin-copies}
use Rattle.tql_store.proofs.store.Store.begin.Goals as goal

pub invariant_of-self : goal.invariant_of-self
invariant_of-self g c =
    let none : c.args.self.now.working ≡ None = search rules in
    let closed : c.self.inside.working ≡ None = ap (λ (h : StoreModel). h.working) c.self.view_is ∙ none in
    subst (λ (x : ℤ). IsOrderly c.self.inside.places.items c.self.inside.rows.items c.self.inside.touched.items
    (Some x) c.self.inside.last) (sym (to_z-of_z c.ranges.moment))
    (begin-orderly c.args.moment c.self.inside.last c.self.inside.places.items c.self.inside.rows.items
    c.self.inside.touched.items
    (subst (λ (w : Option ℤ). IsOrderly c.self.inside.places.items c.self.inside.rows.items
    c.self.inside.touched.items w c.self.inside.last) closed c.self.invariant)
    (subst (λ (h : StoreModel). Under h.last c.args.moment) (sym c.self.view_is) c.requires.later) c.requires.below)

pub returns-clause-copies : goal.returns-clause-copies
returns-clause-copies g c =
    begin-copies _ c.args.self.now _ (search rules) c.requires.later c.requires.below (search rules) (search rules)
    (search rules) (search rules) (λ t. search rules)
