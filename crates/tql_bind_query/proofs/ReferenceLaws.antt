-- The versions that a reference selects.
use Rattle.std.specs.Prelude.{◌≡◌, ℤ, Bool, not, Option, Some, None, is_none, is_some}
use Rattle.std.proofs.Common.{sym, ap}
use Rattle.tql_spec.specs.Binding.{moment, when}
use Rattle.tql_spec.specs.Definition.{TableDef}
use Rattle.tql_spec.specs.History.{When, AsOf}
use Rattle.tql_spec.specs.Names.{Checked, ◌>>=◌, sound, refuse_if}
use Rattle.tql_spec.specs.Refusal.{Refusal, FormNotAllowedHere}
use Rattle.tql_spec.specs.Syntax.{MomentTree, AsOfTree}
use Rattle.tql_bind_expr.specs.Gathered.{Gathers}
use Rattle.tql_bind_expr.proofs.Gathering.{sound_here, bound}

-- a value is missing exactly if it is not present
pub missing : {X : Type 0} (o : Option X) (b : Bool) → b ≡ is_some o → is_none o ≡ not b
missing None b e = sym (ap not e)
missing (Some x) b e = sym (ap not e)

-- AS OF
pub as_of_bound : (d : TableDef) (t : MomentTree) (old mid new : Option Refusal) (m : ℤ)
    → Gathers (refuse_if (is_none d.system) FormNotAllowedHere) old mid tt → Gathers (moment t) mid new m
    → Gathers (when d (AsOfTree t)) old new (AsOf m)
as_of_bound d t old mid new m refused point =
    let last : ℤ → Checked When = λ m. sound (AsOf m) in
    bound (refuse_if (is_none d.system) FormNotAllowedHere) (λ u. moment t >>= last) old mid new tt (AsOf m) refused
    (bound (moment t) last mid new new m (AsOf m) point (sound_here (AsOf m) new))

-- a range of moments, of any kind
abbrev pub ranged : TableDef → (ℤ → ℤ → When) → MomentTree → MomentTree → Checked When
ranged d which a b = do
  u ← refuse_if (is_none d.system) FormNotAllowedHere
  f ← moment a
  g ← moment b
  sound (which f g)

pub range_bound : (d : TableDef) (which : ℤ → ℤ → When) (a b : MomentTree) (old mid m new : Option Refusal) (f g : ℤ)
    → Gathers (refuse_if (is_none d.system) FormNotAllowedHere) old mid tt → Gathers (moment a) mid m f
    → Gathers (moment b) m new g → Gathers (ranged d which a b) old new (which f g)
range_bound d which a b old mid m new f g refused from to =
    let last : ℤ → ℤ → Checked When = λ f g. sound (which f g) in
    let rest : ℤ → Checked When = λ f. moment b >>= last f in
    bound (refuse_if (is_none d.system) FormNotAllowedHere) (λ u. moment a >>= rest) old mid new tt (which f g) refused
    (bound (moment a) rest mid m new f (which f g) from
    (bound (moment b) (last f) m new new g (which f g) to (sound_here (which f g) new)))
