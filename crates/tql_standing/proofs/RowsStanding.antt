-- Index entries of current rows when rows are added, removed and moved.
use Rattle.std.proofs.Common.{◌≡◌, ℕ, zero, suc, ◌+◌, ◌-◌, ◌<◌, ◌≤◌, Bool, true, false, List, [], ◌∷◌, ◌++◌}
use Rattle.std.proofs.Common.{get_or, set, take, drop, length, length-append, refl, sym, ap, subst, ◌∙◌, arith, inl}
use Rattle.std.proofs.Common.{inr}
use Rattle.std.specs.Prelude.{◌⊎◌, ◌≢◌, Option, None, Contains, All, ℤ, if◌then◌else◌, max}
use Rattle.std.proofs.lemmas.Bool.{cases_lt}
use Rattle.std.proofs.lemmas.List.{map-append, length-map, get_or_append_left, get_or-append_right, get_or-map}
use Rattle.std.specs.List.{swap_remove}
use Rattle.std.proofs.lemmas.List.{get_or_default, get_or-take, take_more, length-take, length-set}
use Rattle.std.proofs.lemmas.List.{get_or-set_same, get_or-set_other}
use Rattle.std.proofs.lemmas.List.Elements.{Contains-append_cases, Contains-append_left, Contains-append_right}
use Rattle.tql_spec.specs.Datum.{Row}
use Rattle.tql_spec.specs.Definition.{Version}
use Rattle.tql_spec.specs.Period.{Period}
use Rattle.tql_store_index.proofs.Linking.{same_turned}
use Rattle.tql_store_index.proofs.Seated.{apart}
use Rattle.tql_store_index.specs.ValueIndexes.{ValueIndex, index_at, Each, IsLinked, DiffersIn, AreLoose, IsGrown}
use Rattle.tql_store_index.specs.ValueIndexes.{IsTurned, nowhere}
use Rattle.tql_store_index.specs.Basis.{Basis, Filed, filed, stands_by}
use Rattle.tql_store_index.specs.Places.{whole}
use Rattle.tql_store_index.specs.Seating.{Seating, seat_at, AreGrown, AreSwapped}
use Rattle.tql_store_index.specs.Standing.{stands}
use Rattle.tql_standing.specs.RowsStanding.{AreStanding, AreHeld, IsShut, IsShutAt, rows_of}
use Rattle.tql_versions.specs.Places.{version_at}
use Rattle.tql_standing.specs.RowsStanding.{all_of, held_in, held_of, stands_ever, IsComing, cells_of}
use Rattle.tql_versions.specs.Changes.{is_current, emptied, moved_out, nothing}
use Rattle.tql_versions.specs.Views.{version_of, versions_of}
use Rattle.tql_versions.specs.declared.kept.Kept.{Kept}

pub past_end : {X : Type 0} (xs : List (Option X)) (j : ℕ) → length xs ≤ j → get_or xs j None ≡ None
past_end [] j l = refl
past_end (x ∷ xs) zero l = absurd (omega (arith, l))
past_end (x ∷ xs) (suc j) l = past_end xs j (omega (arith, l))

pub rows-length : (vs : List Version) → length (rows_of vs) ≡ length vs
rows-length vs = length-map vs (λ (v : Version). filed v.row.cells whole)

pub all-length : (basis : Basis) (rows : List Filed) → length (all_of basis rows) ≡ length rows
all-length basis rows = length-map rows (stands_by basis)

-- ---- no rows

pub standing_none : (s : Seating) (indexes : List ValueIndex) → s ≡ record { seats = []; places = [] }
    → All (λ (k : ValueIndex). k.standing ≡ []) indexes → AreStanding s indexes []
standing_none s indexes e h = rw e (record {
  each = λ i l.
      let z : (index_at indexes i).standing ≡ [] = h i nowhere l in
      record {
        room = omega arith;
        wide = omega arith;
        each = λ k m. absurd (omega (arith, m));
        beyond = λ seat m. ap (λ (xs : List (Option Period)). stands xs seat) z;
      };
})

-- without indexes, nothing has to be entered
pub standing_nil : (s : Seating) (indexes : List ValueIndex) (rows : List Filed) → length indexes ≡ 0
    → AreStanding s indexes rows
standing_nil s indexes rows e = record { each = λ i l. absurd (omega (arith, e, l)) }

-- ---- more room

grown_key : (what : List (Option Period)) (s t : Seating) (old new : List (Option Period)) → AreGrown s t
    → ((seat : ℕ) → stands new seat ≡ stands old seat) → length t.seats ≤ length new → IsLinked what s old
    → IsLinked what t new
grown_key what s t old new g kept wide h = record {
  room = let a = h.room in let b = g.longer in omega (arith, a, b);
  wide = wide;
  each = λ k l. elim (cases_lt k (length s.seats)) [
    | inl a ↦ ap (λ i. stands new i) (g.kept k a) ∙ kept (seat_at s k) ∙ h.each k a
    | inr a ↦ ap (λ i. stands new i) (g.fresh k a l) ∙ kept k ∙ h.beyond k a
        ∙ sym (past_end what k (let r = h.room in omega (arith, r, a)))
  ];
  beyond = λ seat l. kept seat ∙ h.beyond seat (let b = g.longer in omega (arith, b, l));
}

pub standing_grown : (s t : Seating) (old new : List ValueIndex) (rows : List Filed) → AreGrown s t
    → Each IsGrown old new
    → ((i : ℕ) → i < length old → length t.seats ≤ length (index_at new i).standing) → AreStanding s old rows
    → AreStanding t new rows
standing_grown s t old new rows g e wide h = record {
  each = λ i l.
      let m : i < length old = let q = e.0 in omega (arith, q, l) in
      subst (λ (b : Basis). IsLinked (all_of b rows) t (index_at new i).standing) (sym (e.1 i m).basis)
      (grown_key (all_of (index_at old i).basis rows) s t (index_at old i).standing (index_at new i).standing g
      (e.1 i m).kept (wide i m) (h.each i m));
}

pub grown_none : (s : Seating) → AreGrown s s
grown_none s = record {
  longer = omega arith;
  kept = λ k l. refl;
  fresh = λ k l m. absurd (omega (arith, l, m));
}

-- only the indexes have grown
pub standing_wider : (s : Seating) (old new : List ValueIndex) (rows : List Filed) → Each IsGrown old new
    → AreStanding s old rows → AreStanding s new rows
standing_wider s old new rows e h = standing_grown s s old new rows (grown_none s) e
    (λ i l. let a = (h.each i l).wide in let b = (e.1 i l).longer in omega (arith, a, b)) h

-- the row slots have grown, too
pub standing_longer : (s t : Seating) (old new : List ValueIndex) (rows : List Filed) (to : ℕ) → AreGrown s t
    → length t.seats ≤ max (length s.seats) to → Each IsGrown old new
    → ((i : ℕ) → i < length old → to ≤ length (index_at new i).standing) → AreStanding s old rows
    → AreStanding t new rows
standing_longer s t old new rows to g most e wide h = standing_grown s t old new rows g e
    (λ i l. let a = (h.each i l).wide in let b = (e.1 i l).longer in let c = wide i l in omega (arith, a, b, c, most)) h

-- ---- adding rows

pub past_is : (basis : Basis) (rows : List Filed) (j : ℕ) (none : Filed) → j < length rows
    → stands (all_of basis rows) j ≡ stands_by basis (get_or rows j none)
past_is basis [] j none l = absurd (omega (arith, l))
past_is basis (r ∷ rows) zero none l = refl
past_is basis (r ∷ rows) (suc j) none l = past_is basis rows j none (omega (arith, l))

pub coming_none : (from : ℕ) (rows : List Filed) (s : Seating) (indexes : List ValueIndex)
    → Each (IsComing from 0 rows s) indexes indexes
coming_none from rows s indexes = (
  refl,
  λ i l. record {
    turned = same_turned from (from + 0) s (index_at indexes i);
    came = λ j m. absurd (omega (arith, m));
  },
)

-- two adjacent ranges of positions
turned_on : (from j n : ℕ) (s : Seating) (old now new : ValueIndex) → j < n → IsTurned from (from + j) s old now
    → IsTurned (from + j) (from + j + 1) s now new → IsTurned from (from + n) s old new
turned_on from j n s old now new l a t = record {
  basis = t.basis ∙ a.basis;
  differs = record {
    even = t.differs.even ∙ a.differs.even;
    others = λ k m o. elim o [
      | inl b ↦ t.differs.others k m (inl (omega (arith, b))) ∙ a.differs.others k m (inl b)
      | inr b ↦ t.differs.others k m (inr (omega (arith, b, l))) ∙ a.differs.others k m (inr (omega (arith, b, l)))
    ];
    beyond = λ seat m. t.differs.beyond seat m ∙ a.differs.beyond seat m;
  };
}

coming_one : (from j : ℕ) (rows : List Filed) (s : Seating) (old now new : ValueIndex) (row none : Filed)
    → from + j < length s.seats → j < length rows → row ≡ get_or rows j none
    → IsTurned (from + j) (from + j + 1) s now new
    → stands new.standing (seat_at s (from + j)) ≡ stands_by now.basis row → IsComing from j rows s old now
    → IsComing from (j + 1) rows s old new
coming_one from j rows s old now new row none room l read t is a = record {
  turned = turned_on from j (j + 1) s old now new (omega arith) a.turned t;
  came = λ i m. elim (cases_lt i j) [
    | inl b ↦ t.differs.others (from + i) (omega (arith, b, room)) (inl (omega (arith, b))) ∙ a.came i b
    | inr b ↦
        let q : i ≡ j = omega (arith, b, m) in
        ap (λ k. stands new.standing (seat_at s (from + k))) q ∙ is
        ∙ ap (λ b. stands_by b row) a.turned.basis ∙ ap (stands_by old.basis) read
        ∙ sym (past_is old.basis rows j none l)
        ∙ ap (λ k. stands (all_of old.basis rows) k) (sym q)
  ];
}

-- one more row has been entered in each index
pub all_coming : (from j : ℕ) (rows : List Filed) (s : Seating) (old now new : List ValueIndex) (row none : Filed)
    → from + j < length s.seats → j < length rows → row ≡ get_or rows j none
    → Each (IsTurned (from + j) (from + j + 1) s) now new
    → ((i : ℕ) → i < length now → stands (index_at new i).standing (seat_at s (from + j))
    ≡ stands_by (index_at now i).basis row)
    → Each (IsComing from j rows s) old now → Each (IsComing from (j + 1) rows s) old new
all_coming from j rows s old now new row none room l read t is a = (
  t.0 ∙ a.0,
  λ i m.
      let n : i < length now = let e = a.0 in omega (arith, e, m) in
      coming_one from j rows s (index_at old i) (index_at now i) (index_at new i) row none room l read (t.1 i n)
      (is i n) (a.1 i m),
)

-- it was not entered in some of them
pub all_stopped : (from j n : ℕ) (rows : List Filed) (s : Seating) (old now new : List ValueIndex) → j < n
    → Each (IsTurned (from + j) (from + j + 1) s) now new → Each (IsComing from j rows s) old now
    → Each (IsTurned from (from + n) s) old new
all_stopped from j n rows s old now new l t a = (
  t.0 ∙ a.0,
  λ i m.
      let o : i < length now = let e = a.0 in omega (arith, e, m) in
      turned_on from j n s (index_at old i) (index_at now i) (index_at new i) l (a.1 i m).turned (t.1 i o),
)

-- the slot of the next position is still empty in each index
pub still_loose : (from j : ℕ) (rows : List Filed) (s : Seating) (old now : List ValueIndex) → from + j < length s.seats
    → ((i : ℕ) → i < length old → AreLoose from (length s.seats) s (index_at old i).standing)
    → Each (IsComing from j rows s) old now → (i : ℕ) → i < length now
    → stands (index_at now i).standing (seat_at s (from + j)) ≡ None
still_loose from j rows s old now room loose a i l =
    let m : i < length old = let e = a.0 in omega (arith, e, l) in
    (a.1 i m).turned.differs.others (from + j) room (inr (omega arith)) ∙ loose i m (from + j) (omega arith) room

-- and each index has room for it
pub still_wide : (from j : ℕ) (rows : List Filed) (s : Seating) (old now : List ValueIndex)
    → ((i : ℕ) → i < length old → length s.seats ≤ length (index_at old i).standing)
    → Each (IsComing from j rows s) old now → (i : ℕ) → i < length now
    → length s.seats ≤ length (index_at now i).standing
still_wide from j rows s old now wide a i l =
    let m : i < length old = let e = a.0 in omega (arith, e, l) in
    let w = wide i m in let d = (a.1 i m).turned.differs.even in omega (arith, w, d)

-- all rows have been entered
pub all_turned : (from n : ℕ) (rows : List Filed) (s : Seating) (old new : List ValueIndex)
    → Each (IsComing from n rows s) old new → Each (IsTurned from (from + n) s) old new
all_turned from n rows s old new a = (a.0, λ i l. (a.1 i l).turned)

abbrev HaveCome : ℕ → List (Option Period) → Seating → List (Option Period) → Type 0
HaveCome from points s standing =
    (j : ℕ) → j < length points → stands standing (seat_at s (from + j)) ≡ stands points j

come_key : (what points : List (Option Period)) (from : ℕ) (s : Seating) (old new : List (Option Period))
    → length what ≡ from → from + length points ≤ length s.seats → DiffersIn from (from + length points) s old new
    → HaveCome from points s new → IsLinked what s old → IsLinked (what ++ points) s new
come_key what points from s old new e room d came h = record {
  room = omega (arith, e, room, length-append what points);
  wide = let a = h.wide in let b = d.even in omega (arith, a, b);
  each = λ k l. elim (cases_lt k from) [
    | inl a ↦ d.others k l (inl a) ∙ h.each k l
        ∙ sym (get_or_append_left what points None k (omega (arith, a, e)))
    | inr a ↦ elim (cases_lt k (from + length points)) [
      | inl b ↦
          let q : from + (k - from) ≡ k = omega (arith, a) in
          ap (λ i. stands new (seat_at s i)) (sym q) ∙ came (k - from) (omega (arith, a, b))
          ∙ sym (get_or-append_right what points from k None e a)
      | inr b ↦ d.others k l (inr b) ∙ h.each k l ∙ past_end what k (omega (arith, a, e))
          ∙ sym (past_end (what ++ points) k (omega (arith, b, e, length-append what points)))
    ]
  ];
  beyond = λ seat l. d.beyond seat l ∙ h.beyond seat l;
}

pub standing_more : (s : Seating) (old new : List ValueIndex) (rows added : List Filed) (from : ℕ) → length rows ≡ from
    → from + length added ≤ length s.seats → Each (IsComing from (length added) added s) old new
    → AreStanding s old rows → AreStanding s new (rows ++ added)
standing_more s old new rows added from e room coming h = record {
  each = λ i l.
      let m : i < length old = let q = coming.0 in omega (arith, q, l) in
      let x = coming.1 i m in
      let basis = (index_at old i).basis in
      let size : length (all_of basis added) ≡ length added = all-length basis added in
      subst (λ (b : Basis). IsLinked (all_of b (rows ++ added)) s (index_at new i).standing) (sym x.turned.basis)
      (subst (λ (ws : List (Option Period)). IsLinked ws s (index_at new i).standing)
      (sym (map-append (stands_by basis) rows added))
      (come_key (all_of basis rows) (all_of basis added) from s (index_at old i).standing (index_at new i).standing
      (all-length basis rows ∙ e) (omega (arith, room, size))
      (subst (λ (n : ℕ). DiffersIn from (from + n) s (index_at old i).standing (index_at new i).standing) (sym size)
      x.turned.differs) (λ j k. x.came j (omega (arith, k, size))) (h.each i m)));
}

pub cells-length : (rows : List Row) → length (cells_of rows) ≡ length rows
cells-length rows = length-map rows (λ (row : Row). filed row whole)

pub kept-rows : (ks : List Kept) → length (rows_of (versions_of ks)) ≡ length ks
kept-rows [] = refl
kept-rows (k ∷ ks) = ap suc (kept-rows ks)

-- the slots after the rows are empty
pub loose_behind : (s : Seating) (indexes : List ValueIndex) (rows : List Filed) (from : ℕ) → length rows ≡ from
    → AreStanding s indexes rows → (i : ℕ) → i < length indexes
    → AreLoose from (length s.seats) s (index_at indexes i).standing
loose_behind s indexes rows from e h i l = λ k a b.
    (h.each i l).each k b ∙ past_end (all_of (index_at indexes i).basis rows) k
    (omega (arith, a, e, all-length (index_at indexes i).basis rows))

pub wide_enough : (s : Seating) (indexes : List ValueIndex) (rows : List Filed) → AreStanding s indexes rows → (i : ℕ)
    → i < length indexes → length s.seats ≤ length (index_at indexes i).standing
wide_enough s indexes rows h i l = (h.each i l).wide

-- ---- removing rows

go_key : (what next : List (Option Period)) (from to : ℕ) (s : Seating) (old new : List (Option Period))
    → length next ≤ length s.seats → ((k : ℕ) → (k < from) ⊎ (to ≤ k) → stands next k ≡ stands what k)
    → ((k : ℕ) → from ≤ k → k < to → stands next k ≡ None) → DiffersIn from to s old new → AreLoose from to s new
    → IsLinked what s old → IsLinked next s new
go_key what next from to s old new room same none d gone h = record {
  room = room;
  wide = let a = h.wide in let b = d.even in omega (arith, a, b);
  each = λ k l. elim (cases_lt k from) [
    | inl a ↦ d.others k l (inl a) ∙ h.each k l ∙ sym (same k (inl a))
    | inr a ↦ elim (cases_lt k to) [
      | inl b ↦ gone k a b ∙ sym (none k a b)
      | inr b ↦ d.others k l (inr b) ∙ h.each k l ∙ sym (same k (inr b))
    ]
  ];
  beyond = λ seat l. d.beyond seat l ∙ h.beyond seat l;
}

differs_twice : (from to : ℕ) (s : Seating) (xs ys zs : List (Option Period)) → DiffersIn from to s xs ys
    → DiffersIn from to s ys zs → DiffersIn from to s xs zs
differs_twice from to s xs ys zs a b = record {
  even = b.even ∙ a.even;
  others = λ k l o. b.others k l o ∙ a.others k l o;
  beyond = λ seat l. b.beyond seat l ∙ a.beyond seat l;
}

-- rows of which some were entered after the others have been removed again
pub standing_back : (s : Seating) (old now new : List ValueIndex) (rows : List Filed) (from to : ℕ) → length rows ≡ from
    → Each (IsTurned from to s) old now → Each (IsTurned from to s) now new
    → ((i : ℕ) → i < length now → AreLoose from to s (index_at new i).standing) → AreStanding s old rows
    → AreStanding s new rows
standing_back s old now new rows from to e a b gone h = record {
  each = λ i l.
      let m : i < length now = let q = b.0 in omega (arith, q, l) in
      let n : i < length old = let q = a.0 in omega (arith, q, m) in
      let basis = (index_at old i).basis in
      subst (λ (b : Basis). IsLinked (all_of b rows) s (index_at new i).standing)
      (sym ((b.1 i m).basis ∙ (a.1 i n).basis))
      (go_key (all_of basis rows) (all_of basis rows) from to s (index_at old i).standing (index_at new i).standing
      (h.each i n).room (λ k o. refl)
      (λ k x y. past_end (all_of basis rows) k (omega (arith, x, e, all-length basis rows)))
      (differs_twice from to s (index_at old i).standing (index_at now i).standing (index_at new i).standing
      (a.1 i n).differs (b.1 i m).differs) (gone i m) (h.each i n));
}

-- the rows after a position have been removed
pub standing_less : (s : Seating) (old new : List ValueIndex) (rows more all : List Filed) (from to : ℕ)
    → length rows ≡ from
    → all ≡ rows ++ more → length all ≤ to → Each (IsTurned from to s) old new
    → ((i : ℕ) → i < length old → AreLoose from to s (index_at new i).standing) → AreStanding s old all
    → AreStanding s new rows
standing_less s old new rows more all from to e parts size turned gone h = record {
  each = λ i l.
      let m : i < length old = let q = turned.0 in omega (arith, q, l) in
      let basis = (index_at old i).basis in
      let what : all_of basis all ≡ all_of basis rows ++ all_of basis more =
      ap (all_of basis) parts ∙ map-append (stands_by basis) rows more in
      let n = all-length basis rows in
      let o = all-length basis all in
      subst (λ (b : Basis). IsLinked (all_of b rows) s (index_at new i).standing) (sym (turned.1 i m).basis)
      (go_key (all_of basis all) (all_of basis rows) from to s (index_at old i).standing (index_at new i).standing
      (let r = (h.each i m).room in let q = ap length parts in omega (arith, r, q, n, o, length-append rows more))
      (λ k p. elim p [
        | inl a ↦ sym (ap (λ xs. stands xs k) what
            ∙ get_or_append_left (all_of basis rows) (all_of basis more) None k (omega (arith, a, n, e)))
        | inr a ↦ past_end (all_of basis rows) k (let q = ap length parts in
            omega (arith, a, n, size, q, length-append rows more))
            ∙ sym (past_end (all_of basis all) k (omega (arith, a, o, size)))
      ])
      (λ k x y. past_end (all_of basis rows) k (omega (arith, x, e, n))) (turned.1 i m).differs (gone i m)
      (h.each i m));
}

pub rows-parts : (from : ℕ) (ks : List Kept)
    → rows_of (versions_of ks) ≡ rows_of (versions_of (take from ks)) ++ rows_of (versions_of (drop from ks))
rows-parts zero ks = refl
rows-parts (suc n) [] = refl
rows-parts (suc n) (k ∷ ks) = ap (λ xs. filed (version_of k).row.cells whole ∷ xs) (rows-parts n ks)

pub front-length : (from : ℕ) (ks : List Kept) → from ≤ length ks → length (rows_of (versions_of (take from ks))) ≡ from
front-length zero ks l = refl
front-length (suc n) [] l = absurd (omega (arith, l))
front-length (suc n) (k ∷ ks) l = ap suc (front-length n ks (omega (arith, l)))

-- ---- removing the rows of closed versions

-- nothing is removed if there is no closed version
pub shut_none : (vs : List Version) (s : Seating) (p : ℕ) (k : ValueIndex) → (IsShutAt vs p → ⊥)
    → IsShut vs s (p ∷ []) k k
shut_none vs s p k f = record {
  basis = refl;
  even = refl;
  beyond = λ seat l. refl;
  kept = λ j l. inl refl;
  gone = λ j c h. absurd (f (subst (IsShutAt vs) (sym (only c)) h));
}
  where
    only : {j : ℕ} → Contains (p ∷ []) j → p ≡ j
    only (zero, l, e) = e
    only (suc i, l, e) = absurd (omega (arith, l))

-- the row of a closed version is removed
pub shut_one : (vs : List Version) (s : Seating) (p : ℕ) (old new : ValueIndex) → IsShutAt vs p
    → IsTurned p (p + 1) s old new → AreLoose p (p + 1) s new.standing → IsShut vs s (p ∷ []) old new
shut_one vs s p old new h t gone = record {
  basis = t.basis;
  even = t.differs.even;
  beyond = t.differs.beyond;
  kept = λ k l. elim (cases_lt k p) [
    | inl a ↦ inl (t.differs.others k l (inl a))
    | inr a ↦ elim (cases_lt p k) [
      | inl b ↦ inl (t.differs.others k l (inr (omega (arith, b))))
      | inr b ↦ inr (
        (0, omega arith, here k a b),
        (subst (IsShutAt vs) (here k a b) h, gone k a (omega (arith, b))),
      )
    ]
  ];
  gone = λ k c x. let e = only c in gone k (omega (arith, e)) (omega (arith, e));
}
  where
    here : (k : ℕ) → p ≤ k → k ≤ p → p ≡ k
    here k a b = omega (arith, a, b)

    only : {j : ℕ} → Contains (p ∷ []) j → p ≡ j
    only (zero, l, e) = e
    only (suc i, l, e) = absurd (omega (arith, l))

-- no positions at all
pub shut_start : (vs : List Version) (s : Seating) (k : ValueIndex) → IsShut vs s [] k k
shut_start vs s k = record {
  basis = refl;
  even = refl;
  beyond = λ seat l. refl;
  kept = λ j l. inl refl;
  gone = λ j c h. absurd (nowhere c);
}
  where
    nowhere : {j : ℕ} → Contains [] j → ⊥
    nowhere (i, l, e) = omega (arith, l)

-- first some positions, then others
shut_both : (vs : List Version) (s : Seating) (is js : List ℕ) (a b c : ValueIndex) → length vs ≤ length s.seats
    → IsShut vs s is a b → IsShut vs s js b c → IsShut vs s (is ++ js) a c
shut_both vs s is js a b c room h g = record {
  basis = g.basis ∙ h.basis;
  even = g.even ∙ h.even;
  beyond = λ seat l. g.beyond seat l ∙ h.beyond seat l;
  kept = λ k l. elim (g.kept k l) [
    | inl x ↦ elim (h.kept k l) [
      | inl y ↦ inl (x ∙ y)
      | inr y ↦ inr (Contains-append_left is js k y.0, (y.1.0, x ∙ y.1.1))
    ]
    | inr x ↦ inr (Contains-append_right is js k x.0, x.1)
  ];
  gone = λ k m x. elim (Contains-append_cases is js k m) [
    | inl n ↦ elim (g.kept k (let w = x.0 in omega (arith, w, room)))
        [ inl y ↦ y ∙ h.gone k n x | inr y ↦ y.1.1 ]
    | inr n ↦ g.gone k n x
  ];
}

pub shut_each : (vs : List Version) (s : Seating) (is js : List ℕ) (a b c : List ValueIndex)
    → (0 < length a → length vs ≤ length s.seats)
    → Each (IsShut vs s is) a b → Each (IsShut vs s js) b c → Each (IsShut vs s (is ++ js)) a c
shut_each vs s is js a b c room h g = (
  g.0 ∙ h.0,
  λ i l. shut_both vs s is js (index_at a i) (index_at b i) (index_at c i) (room (omega (arith, l)))
      (h.1 i l) (g.1 i (let e =
      h.0 in omega (arith, e, l))),
)

-- each index on its own
pub each_same : (R : ValueIndex → ValueIndex → Type 0) (indexes : List ValueIndex) → ((k : ValueIndex) → R k k)
    → Each R indexes indexes
each_same R indexes f = (refl, λ i l. f (index_at indexes i))

pub each_other : (P Q : ValueIndex → ValueIndex → Type 0) (old new : List ValueIndex) → Each P old new
    → ((i : ℕ) → i < length old → P (index_at old i) (index_at new i) → Q (index_at old i) (index_at new i))
    → Each Q old new
each_other P Q old new h f = (h.0, λ i l. f i l (h.1 i l))

-- one more position
pub shut_step : (vs : List Version) (s : Seating) (places : List ℕ) (j : ℕ) (a b c : List ValueIndex)
    → length vs ≤ length s.seats → j < length places → Each (IsShut vs s (take j places)) a b
    → Each (IsShut vs s (get_or places j 0 ∷ [])) b c → Each (IsShut vs s (take (j + 1) places)) a c
shut_step vs s places j a b c room l h g =
    subst (λ (is : List ℕ). Each (IsShut vs s is) a c) (sym (take_more places j 0 l))
    (shut_each vs s (take j places) (get_or places j 0 ∷ []) a b c (λ m. room) h g)

-- the next position, as the code reads it
pub shut_stepped : (ks ls : List Kept) (s : Seating) (places ps : List ℕ) (j p : ℕ) (a b c : List ValueIndex)
    → length ks ≤ length s.seats → j < length ps → ps ≡ places → ls ≡ ks → p ≡ get_or ps j 0
    → Each (IsShut (versions_of ks) s (take j places)) a b → Each (IsShut (versions_of ls) s (p ∷ [])) b c
    → Each (IsShut (versions_of ks) s (take (j + 1) places)) a c
shut_stepped ks ls s places ps j p a b c room l e f g h i =
    shut_step (versions_of ks) s places j a b c (omega (arith, room, length-map ks version_of))
    (subst (λ (qs : List ℕ). j < length qs) e l) h
    (subst (λ (q : ℕ). Each (IsShut (versions_of ks) s (q ∷ [])) b c) (g ∙ ap (λ (qs : List ℕ). get_or qs j 0) e)
    (subst (λ (ms : List Kept). Each (IsShut (versions_of ms) s (p ∷ [])) b c) f i))

-- ---- only versions that pass a test are entered

pub held-length : (test : Version → Bool) (basis : Basis) (vs : List Version)
    → length (held_of test basis vs) ≡ length vs
held-length test basis vs = length-map vs (held_in test basis)

pub at_all : (basis : Basis) (vs : List Version) (k : ℕ) → k < length vs
    → stands (all_of basis (rows_of vs)) k ≡ stands_ever basis (version_at vs k).row.cells
at_all basis [] k l = absurd (omega (arith, l))
at_all basis (v ∷ vs) zero l = refl
at_all basis (v ∷ vs) (suc k) l = at_all basis vs k (omega (arith, l))

pub at_held : (test : Version → Bool) (basis : Basis) (vs : List Version) (k : ℕ) → k < length vs
    → stands (held_of test basis vs) k ≡ held_in test basis (version_at vs k)
at_held test basis [] k l = absurd (omega (arith, l))
at_held test basis (v ∷ vs) zero l = refl
at_held test basis (v ∷ vs) (suc k) l = at_held test basis vs k (omega (arith, l))

pub all_held : (test : Version → Bool) (basis : Basis) (v : Version) → test v ≡ true
    → held_in test basis v ≡ stands_ever basis v.row.cells
all_held test basis v t = ap (λ (b : Bool). if b then stands_ever basis v.row.cells else None) t

pub none_held : (test : Version → Bool) (basis : Basis) (v : Version) → test v ≡ false → held_in test basis v ≡ None
none_held test basis v f = ap (λ (b : Bool). if b then stands_ever basis v.row.cells else None) f

-- a version passes the test and, if listed, is open; or it fails, and is closed and listed
abbrev pub IsTold : (Version → Bool) → List Version → List ℕ → ℕ → Type 0
IsTold test vs is k = ((test (version_at vs k) ≡ true) × (Contains is k → is_current (version_at vs k) ≡ true))
    ⊎ ((test (version_at vs k) ≡ false) × (IsShutAt vs k × Contains is k))

-- the rows of the versions that fail the test have been removed
pub standing_left : (test : Version → Bool) (s : Seating) (indexes new : List ValueIndex) (vs : List Version)
    (is : List ℕ) → Each (IsShut vs s is) indexes new → ((k : ℕ) → k < length vs → IsTold test vs is k)
    → AreStanding s indexes (rows_of vs) → AreHeld test s new vs
standing_left test s indexes new vs is shut told h = record {
  each = λ i l.
      let n : i < length indexes = let e = shut.0 in omega (arith, e, l) in
      let basis = (index_at indexes i).basis in
      let x = shut.1 i n in
      let g = h.each i n in
      subst (λ (b : Basis). IsLinked (held_of test b vs) s (index_at new i).standing) (sym x.basis)
      (record {
        room = let r = g.room in omega
            (arith, r, all-length basis (rows_of vs), rows-length vs, held-length test basis vs);
        wide = let a = g.wide in let b = x.even in omega (arith, a, b);
        each = λ k o. elim (cases_lt k (length vs)) [
          | inl a ↦ elim (told k a) [
            | inl t ↦ same i k x o (λ c z. both (is_current (version_at vs k)) (t.1 c) z.1) ∙ g.each k o
                ∙ at_all basis vs k a
                ∙ sym (at_held test basis vs k a ∙ all_held test basis (version_at vs k) t.0)
            | inr t ↦ x.gone k t.1.1 t.1.0
                ∙ sym (at_held test basis vs k a ∙ none_held test basis (version_at vs k) t.0)
          ]
          | inr a ↦ same i k x o (λ c z. let w = z.0 in omega (arith, w, a)) ∙ g.each k o
              ∙ past_end (all_of basis (rows_of vs)) k (omega
              (arith, a, all-length basis (rows_of vs), rows-length vs))
              ∙ sym (past_end (held_of test basis vs) k (omega (arith, a, held-length test basis vs)))
        ];
        beyond = λ seat o. x.beyond seat o ∙ g.beyond seat o;
      });
}
  where
    both : (b : Bool) → b ≡ true → b ≡ false → ⊥
    both b p q = absurd (cc)

    same : (i k : ℕ) → IsShut vs s is (index_at indexes i) (index_at new i) → k < length s.seats
        → (Contains is k → IsShutAt vs k → ⊥)
        → stands (index_at new i).standing (seat_at s k) ≡ stands (index_at indexes i).standing (seat_at s k)
    same i k x o f = elim (x.kept k o) [ inl e ↦ e | inr e ↦ absurd (f e.0 e.1.0) ]

-- ---- removing closed versions from their positions

set_none : {X : Type 0} (xs : List (Option X)) (k : ℕ) → get_or xs k None ≡ None → set xs k None ≡ xs
set_none [] k h = refl
set_none (x ∷ xs) zero h = ap (λ y. y ∷ xs) (sym h)
set_none (x ∷ xs) (suc k) h = ap (λ ys. x ∷ ys) (set_none xs k h)

emptied_same : (basis : Basis) (m : ℤ) (is : List ℕ) (vs : List Version) → held_in is_current basis (moved_out m) ≡ None
    → ((j : ℕ) → Contains is j → stands (held_of is_current basis vs) j ≡ None)
    → held_of is_current basis (emptied m is vs) ≡ held_of is_current basis vs
emptied_same basis m [] vs e h = refl
emptied_same basis m (i ∷ is) vs e h =
    let same : held_of is_current basis (set vs i (moved_out m)) ≡ held_of is_current basis vs =
    map_set vs i ∙ ap (set (held_of is_current basis vs) i) e
    ∙ set_none (held_of is_current basis vs) i (h i (0, omega arith, refl)) in
    emptied_same basis m is (set vs i (moved_out m)) e
    (λ j c. ap (λ xs. stands xs j) same ∙ h j (later c)) ∙ same
  where
    map_set : (us : List Version) (k : ℕ)
        → held_of is_current basis (set us k (moved_out m))
        ≡ set (held_of is_current basis us) k (held_in is_current basis (moved_out m))
    map_set [] k = refl
    map_set (u ∷ us) zero = refl
    map_set (u ∷ us) (suc k) = ap (λ xs. held_in is_current basis u ∷ xs) (map_set us k)

    later : {j : ℕ} → Contains is j → Contains (i ∷ is) j
    later (k, l, g) = (suc k, omega (arith, l), g)

pub emptied-length : (m : ℤ) (is : List ℕ) (vs : List Version) → length (emptied m is vs) ≡ length vs
emptied-length m [] vs = refl
emptied-length m (i ∷ is) vs = emptied-length m is (set vs i (moved_out m)) ∙ set_length vs i
  where
    set_length : (us : List Version) (k : ℕ) → length (set us k (moved_out m)) ≡ length us
    set_length [] k = refl
    set_length (u ∷ us) zero = refl
    set_length (u ∷ us) (suc k) = ap suc (set_length us k)

pub standing_emptied : (s : Seating) (indexes : List ValueIndex) (keeps : Bool) (m : ℤ) (is : List ℕ)
    (vs us : List Version)
    → is_current (moved_out m) ≡ false
    → ((j : ℕ) → Contains is j → (j < length vs) × (is_current (version_at vs j) ≡ false))
    → us ≡ (if keeps then emptied m is vs else vs) → AreHeld is_current s indexes vs → AreHeld is_current s indexes us
standing_emptied s indexes true m is vs us f shut e h = rw e (record {
  each = λ i l. subst (λ (xs : List (Option Period)). IsLinked xs s (index_at indexes i).standing)
      (sym (emptied_same (index_at indexes i).basis m is vs
      (none_held is_current (index_at indexes i).basis (moved_out m) f)
      (λ j c. let x = shut j c in at_held is_current (index_at indexes i).basis vs j x.0
      ∙ none_held is_current (index_at indexes i).basis (version_at vs j) x.1)))
      (h.each i l);
})
standing_emptied s indexes false m is vs us f shut e h = rw e h

-- ---- the last version replaces a closed one

held_here : (test : Version → Bool) (basis : Basis) (ks : List Kept) (k : ℕ) (d : Kept) → k < length ks
    → stands (held_of test basis (versions_of ks)) k ≡ held_in test basis (version_of (get_or ks k d))
held_here test basis [] k d l = absurd (omega (arith, l))
held_here test basis (x ∷ ks) zero d l = refl
held_here test basis (x ∷ ks) (suc k) d l = held_here test basis ks k d (omega (arith, l))

kept-length : (test : Version → Bool) (basis : Basis) (ks : List Kept)
    → length (held_of test basis (versions_of ks)) ≡ length ks
kept-length test basis [] = refl
kept-length test basis (k ∷ ks) = ap suc (kept-length test basis ks)

-- a list after the removal of a position, which the last element takes
pub record IsDropped (old new : List Kept) (p : ℕ) : Type 0 where
  pub size : length new + 1 ≡ length old
  pub there : (d : Kept) → p + 1 < length old → get_or new p d ≡ get_or old (length old - 1) d
  pub others : (k : ℕ) (d : Kept) → k ≢ p → k + 1 < length old → get_or new k d ≡ get_or old k d

pub dropped : (old new : List Kept) (p : ℕ) (r : Kept) → p < length old → new ≡ swap_remove old p r
    → IsDropped old new p
dropped old new p r l e =
    let last = get_or old (length old - 1) r in
    let n = length-set old p last in
    rw e (record {
      size = omega (arith, l, n, length-take (length old - 1) (set old p last));
      there = λ d m. get_or-take (length old - 1) (set old p last) p d (omega (arith, m))
          ∙ get_or-set_same old p last d l ∙ get_or_default old (length old - 1) r d (omega (arith, l));
      others = λ k d f m. get_or-take (length old - 1) (set old p last) k d (omega (arith, m))
          ∙ get_or-set_other old p k last d f;
    })

-- the spans of versions, by position
pub record AreSpans (span : Version → Option Period) (ks : List Kept) (what : List (Option Period)) : Type 0 where
  pub size : length what ≡ length ks
  pub each : (k : ℕ) (d : Kept) → k < length ks → stands what k ≡ span (version_of (get_or ks k d))

-- the row slot at a position has no span, and the others have those of their positions
pub record IsFreed (p : ℕ) (what : List (Option Period)) (s : Seating) (standing : List (Option Period)) :
    Type 0 where
  pub room : length what ≤ length s.seats
  pub wide : length s.seats ≤ length standing
  pub gone : stands standing (seat_at s p) ≡ None
  pub each : (k : ℕ) → k ≢ p → k < length s.seats → stands standing (seat_at s k) ≡ stands what k
  pub beyond : (seat : ℕ) → length s.seats ≤ seat → stands standing seat ≡ None

-- when the last version moves to the position with its row slot, each version has its span
pub linked_freed : (span : Version → Option Period) (was now standing : List (Option Period)) (s t : Seating)
    (old new : List Kept) (p last : ℕ) (r : Kept) → p < length old → last + 1 ≡ length old
    → (p < length s.seats → last < length s.seats → AreSwapped p last s t) → IsDropped old new p
    → AreSpans span old was → AreSpans span new now → IsFreed p was s standing → IsLinked now t standing
linked_freed span was now standing s t old new p last r within is swaps d spans left h = record {
  room = let e = swapped.even in omega (arith, e, room, size, count);
  wide = let e = swapped.even in let w = h.wide in omega (arith, e, w);
  each = λ k l.
      let m : k < length s.seats = let e = swapped.even in omega (arith, e, l) in
      elim (apart k p) [
        | inl e ↦ elim (cases_lt (p + 1) (length old)) [
          | inl a ↦
              let q : length old - 1 ≡ last = omega (arith, is) in
              ap (λ j. stands standing (seat_at t j)) e ∙ ap (λ j. stands standing j) swapped.first
              ∙ h.each last (λ z. omega (arith, z, a, is)) (omega (arith, is, room))
              ∙ spans.each last r (omega (arith, is))
              ∙ ap (λ j. span (version_of (get_or old j r))) (sym q)
              ∙ ap (λ x. span (version_of x)) (sym (d.there r a))
              ∙ sym (left.each p r (omega (arith, a, size)))
              ∙ ap (λ j. stands now j) (sym e)
          | inr a ↦
              let q : last ≡ p = omega (arith, a, is, within) in
              ap (λ j. stands standing (seat_at t j)) e ∙ ap (λ j. stands standing j) swapped.first
              ∙ ap (λ j. stands standing (seat_at s j)) q ∙ h.gone
              ∙ sym (past_end now k (omega (arith, a, e, size, count)))
        ]
        | inr f ↦ elim (apart k last) [
          | inl e ↦ ap (λ j. stands standing (seat_at t j)) e ∙ ap (λ j. stands standing j) swapped.second ∙ h.gone
              ∙ sym (past_end now k (omega (arith, e, is, size, count)))
          | inr g ↦ ap (λ j. stands standing j) (swapped.others k f g) ∙ h.each k f m ∙ elim (cases_lt k last) [
            | inl a ↦ spans.each k r (omega (arith, a, is))
                ∙ ap (λ x. span (version_of x)) (sym (d.others k r f (omega (arith, a, is))))
                ∙ sym (left.each k r (omega (arith, a, is, size)))
            | inr a ↦ past_end was k (beyond k g a) ∙ sym (past_end now k (beyond_new k g a))
          ]
        ]
      ];
  beyond = λ seat l. h.beyond seat (let e = swapped.even in omega (arith, e, l));
}
  where
    size : length new + 1 ≡ length old
    size = d.size

    count : length now ≡ length new
    count = left.size

    room : length old ≤ length s.seats
    room = let a = h.room in let b = spans.size in omega (arith, a, b)

    swapped : AreSwapped p last s t
    swapped = swaps (omega (arith, within, room)) (omega (arith, is, room))

    beyond : (k : ℕ) → k ≢ last → last ≤ k → length was ≤ k
    beyond k g a = elim (cases_lt last k) [
      | inl b ↦ let n = spans.size in omega (arith, b, is, n)
      | inr b ↦ absurd (g (omega (arith, a, b)))
    ]

    beyond_new : (k : ℕ) → k ≢ last → last ≤ k → length now ≤ k
    beyond_new k g a = omega (arith, a, is, size, count)

held_spans : (test : Version → Bool) (basis : Basis) (ks : List Kept)
    → AreSpans (held_in test basis) ks (held_of test basis (versions_of ks))
held_spans test basis ks = record { size = kept-length test basis ks; each = held_here test basis ks }

-- a version that fails the test has no span
pub linked_dropped : (test : Version → Bool) (basis : Basis) (standing : List (Option Period)) (s t : Seating)
    (old new : List Kept) (p last : ℕ) (r : Kept) → p < length old → last + 1 ≡ length old
    → (p < length s.seats → last < length s.seats → AreSwapped p last s t) → r ≡ get_or old p r
    → IsDropped old new p → test (version_of r) ≡ false
    → IsLinked (held_of test basis (versions_of old)) s standing
    → IsLinked (held_of test basis (versions_of new)) t standing
linked_dropped test basis standing s t old new p last r within is swaps read d shut h =
    linked_freed (held_in test basis) (held_of test basis (versions_of old)) (held_of test basis (versions_of new))
    standing s t old new p last r within is swaps d (held_spans test basis old) (held_spans test basis new)
    (record {
      room = h.room;
      wide = h.wide;
      gone = h.each p (let a = h.room in omega (arith, within, a, kept-length test basis old))
          ∙ held_here test basis old p r within
          ∙ ap (λ x. held_in test basis (version_of x)) (sym read) ∙ none_held test basis (version_of r) shut;
      each = λ k f l. h.each k l;
      beyond = h.beyond;
    })

-- the closed version that the code reads at a position
pub read_at : (ks : List Kept) (p : ℕ) (v : Kept) → p < length ks → v ≡ get_or ks p v
    → is_current (version_of v) ≡ false → IsShutAt (versions_of ks) p
read_at ks p v l read shut = (
  omega (arith, l, length-map ks version_of),
  ap is_current
      (get_or-map version_of ks p v nothing l ∙ ap version_of (sym read)) ∙ shut,
)

-- ---- all remaining rows are entered

held_all : (test : Version → Bool) (basis : Basis) (vs : List Version)
    → ((k : ℕ) → k < length vs → test (version_at vs k) ≡ true)
    → held_of test basis vs ≡ all_of basis (rows_of vs)
held_all test basis [] h = refl
held_all test basis (v ∷ vs) h =
    ap (λ (b : Bool). (if b then stands_ever basis v.row.cells else None) ∷ held_of test basis vs) (h 0 (omega arith))
    ∙ ap (λ xs. stands_ever basis v.row.cells ∷ xs) (held_all test basis vs (λ k l. h (suc k) (omega (arith, l))))

pub standing_all : (test : Version → Bool) (s : Seating) (indexes : List ValueIndex) (vs : List Version)
    → ((k : ℕ) → k < length vs → test (version_at vs k) ≡ true) → AreHeld test s indexes vs
    → AreStanding s indexes (rows_of vs)
standing_all test s indexes vs all h = record {
  each = λ i l. subst (λ (xs : List (Option Period)). IsLinked xs s (index_at indexes i).standing)
      (held_all test (index_at indexes i).basis vs all) (h.each i l);
}
