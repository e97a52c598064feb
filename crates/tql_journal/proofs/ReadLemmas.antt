-- What is found in a file that is read in parts.
use Rattle.std.proofs.Common.{◌≡◌, ◌≤◌, ◌<◌, refl, sym, ap, subst, ◌∙◌, ℕ, suc, ◌+◌, ◌^◌, Bool, true, false, cond}
use Rattle.std.proofs.Common.{List, [], ◌∷◌}
use Rattle.std.proofs.Common.{◌++◌, length, drop, append_assoc, append-nil, inl, inr, arith}
use Rattle.std.specs.Prelude.{◌-◌, ◌==◌, ◌&&◌, ◌||◌, not, nat_lt, slice_index, Option, None, IsTrue, IsFalse}
use Rattle.std.specs.Io.KnownBytes.{Consumes, IsAtEnd}
use Rattle.std.specs.List.{prefix_len}
use Rattle.std.proofs.lemmas.Bool.{le-ltb}
use Rattle.std.proofs.lemmas.List.{length-append, length-drop, drop_more}
use Rattle.hex.specs.Hex.{lower_digits}
use Rattle.hex.proofs.HexLemmas.{length-encode_with}
use Rattle.sha2.specs.Sha256.{sha256}
use Rattle.sha2.proofs.Facts256.{length-sha256}
use Rattle.tql_journal_laws.specs.Bytes.{Begins, IsJournal, IsLongestJournal, with_text, line_after}
use Rattle.tql_journal.specs.Seals.{head, hash_words, HoldsBytes}
use Rattle.tql_journal.specs.Fronts.{HasNone, BeginsOne}
use Rattle.tql_journal.specs.Windows.{Seen, Fills}
use Rattle.tql_journal.specs.Reading.{IsOf, IsFound, IsRest, IsRestOf, IsReadOf, IsNoBeginning}
use Rattle.tql_journal.specs.Reading.{IsHeadless, IsHeadRest, is_damaged, has_line, begins_line, is_line, is_digit}
use Rattle.tql_journal.specs.Entries.{TakesAll, MayFollow}
use Rattle.tql_journal.specs.declared.found.Found.{Found}
use Rattle.tql_journal.specs.declared.seal.Seal.{Seal}
use Rattle.tql_journal.specs.declared.found.Rest as rest
use Rattle.tql_journal.specs.declared.found.Rest.TheVariants as r
use Rattle.tql_journal.proofs.LongestLemmas.{is_longest, no_beginning, is_beginning, no_head, journal_first}
use Rattle.tql_journal.proofs.FrontLemmas.{of_no_length, either_begins, other_ever}
use Rattle.tql_journal.proofs.WindowLemmas.{consumes_on}

-- what was read so far
pub record Reads (sought : List ℕ) (before now : Option (List ℕ)) (window : Seen) (found : Found)
    (is_ended may_go_on : Bool) : Type 0 where
  pub front : List ℕ
  pub given : Consumes before now (front ++ window.bytes)
  pub total : window.total ≡ length (front ++ window.bytes)
  pub limit : window.total ≤ 2 ^ 63 + 1_114_182
  pub is : IsOf sought front found
  pub follows : MayFollow front window.bytes may_go_on
  pub statements : found.statements ≤ found.end
  pub lines : found.lines ≤ found.end
  pub ended : IsTrue is_ended → IsAtEnd now

-- bytes after a journal: no statement is in front, and what follows is told
followed : (front bytes more : List ℕ) (may_go_on : Bool) → MayFollow front bytes may_go_on
    → (may_go_on ≡ true → more ≡ []) → HasNone front (bytes ++ more)
followed front bytes more true f e =
    subst (λ (z : List ℕ). HasNone front z) (sym (ap (λ (z : List ℕ). bytes ++ z) (e refl) ∙ append-nil bytes)) f.0
followed front bytes more false f e = f more

-- nothing found is as before
same_counts : (sought front : List ℕ) (old : Found) (kind : rest.Rest) (size : ℕ) → IsOf sought front old
    → IsOf sought front (record old { rest = kind; size = size })
same_counts sought front old kind size k = record {
  texts = k.texts;
  counts = record {
    journal = k.counts.journal;
    end = k.counts.end;
    statements = k.counts.statements;
    lines = k.counts.lines;
    last = k.counts.last;
    there = k.counts.there;
    all = k.counts.all;
  };
  seal = k.seal;
}

rest_is : (front bytes : List ℕ) (texts : List (List ℕ)) (kind : rest.Rest) → IsJournal hash_words head front texts
    → BeginsOne front bytes → IsRestOf bytes kind → IsRest (front ++ bytes) bytes kind
rest_is front bytes texts r.Nothing j o k = of_no_length bytes k
rest_is front bytes texts r.Torn j o k = (k.0, k.1, is_beginning front bytes texts j o)
rest_is front bytes texts r.Damaged j o k = inr k

-- what is found at the end
pub read_all : (sought : List ℕ) (before now : Option (List ℕ)) (window : Seen) (found : Found)
    (is_ended may_go_on : Bool) (kind : rest.Rest) → Reads sought before now window found is_ended may_go_on
    → (may_go_on ≡ true → (is_ended ≡ true) × IsRestOf window.bytes kind) → (may_go_on ≡ false → kind ≡ r.Damaged)
    → IsReadOf before now sought (record found { rest = kind; size = window.total })
unfolding same_counts
read_all sought before now window found is_ended may_go_on kind k f g = record {
  bytes = front ++ window.bytes;
  given = k.given;
  size = k.total;
  is_ended = may_go_on;
  whole = λ d. by may_go_on refl d;
  ended = λ e. k.ended (f e).0;
  is = λ more e. record {
    front = front;
    tail = window.bytes ++ more;
    parts = append_assoc front window.bytes more;
    journal = inl (record {
      is = same_counts sought front found kind window.total k.is;
      longest = subst (λ (z : List ℕ). IsLongestJournal hash_words head z front k.is.texts)
          (sym (append_assoc front window.bytes more))
          (is_longest front (window.bytes ++ more) k.is.texts k.is.counts.journal
          (followed front window.bytes more may_go_on k.follows e));
    });
    rest = kinds may_go_on refl more e;
  };
}
  where
    front : List ℕ
    front = k.front

    by : (t : Bool) → may_go_on ≡ t → IsFalse (is_damaged kind) → may_go_on ≡ true
    by true q d = q
    by false q d = absurd (let e = sym (ap is_damaged (g q)) ∙ d in cc)

    kinds : (t : Bool) → may_go_on ≡ t → (more : List ℕ) → (may_go_on ≡ true → more ≡ [])
        → IsRest ((front ++ window.bytes) ++ more) (window.bytes ++ more) kind
    kinds true q more e =
        let none : window.bytes ++ more ≡ window.bytes = ap (λ (z : List ℕ). window.bytes ++ z) (e q)
        ∙ append-nil window.bytes in
        let all : (front ++ window.bytes) ++ more ≡ front ++ window.bytes =
        append_assoc front window.bytes more ∙ ap (λ (z : List ℕ). front ++ z) none in
        subst (λ (z : List ℕ). IsRest z (window.bytes ++ more) kind) (sym all)
        (subst (λ (z : List ℕ). IsRest (front ++ window.bytes) z kind) (sym none)
        (rest_is front window.bytes k.is.texts kind k.is.counts.journal
        (subst (λ t. MayFollow front window.bytes t) q k.follows).1 (f q).1))
    kinds false q more e =
        subst (λ z. IsRest ((front ++ window.bytes) ++ more) (window.bytes ++ more) z) (sym (g q))
        (inl (subst IsNoBeginning (sym (append_assoc front window.bytes more))
        (no_beginning front (window.bytes ++ more) k.is.texts k.is.counts.journal
        (λ rest. subst (λ (z : List ℕ). HasNone front z) (sym (append_assoc window.bytes more rest))
        ((subst (λ t. MayFollow front window.bytes t) q k.follows) (more ++ rest))))))

-- ---- steps

-- after the first line
pub reads_first : (sought : List ℕ) (before now : Option (List ℕ)) (old filled skipped window : Seen)
    (found' found : Found) (is_ended may_go_on : Bool) (rest : List ℕ) → Fills before now is_ended old filled
    → old.bytes ≡ [] → old.total ≡ 0 → filled.bytes ≡ head ++ rest → skipped.bytes ≡ drop 17 filled.bytes
    → skipped.total ≡ filled.total → IsOf sought head found' → TakesAll sought skipped window found' found may_go_on
    → Reads sought before now window found is_ended may_go_on
reads_first sought before now old filled skipped window found' found is_ended may_go_on rest f o z h b total i t =
    let k = t.is head i in
    record {
      front = head ++ t.taken;
      given = subst (Consumes before now) all f.given;
      total = t.total ∙ total ∙ sums;
      limit = subst (λ n. n ≤ 2 ^ 63 + 1_114_182) (sym (t.total ∙ total)) f.limit;
      is = k.0;
      follows = k.1;
      statements = t.statements;
      lines = t.lines;
      ended = f.ended;
    }
  where
    left : rest ≡ t.taken ++ window.bytes
    left = sym (b ∙ ap (λ (z : List ℕ). drop 17 z) h) ∙ t.bytes

    given : filled.bytes ≡ f.more
    given = f.bytes ∙ ap (λ (z : List ℕ). z ++ f.more) o

    all : f.more ≡ (head ++ t.taken) ++ window.bytes
    all = sym given ∙ h ∙ ap (λ (z : List ℕ). head ++ z) left ∙ sym (append_assoc head t.taken window.bytes)

    sums : filled.total ≡ length ((head ++ t.taken) ++ window.bytes)
    sums = f.total ∙ ap (λ n. n + length f.more) z ∙ zero-plus (length f.more) ∙ ap length all
      where
        zero-plus : (n : ℕ) → 0 + n ≡ n
        zero-plus n = omega arith

-- after more was read
pub reads_next : (sought : List ℕ) (before mid now : Option (List ℕ)) (window filled window' : Seen)
    (found found' : Found) (is_ended may_go_on is_ended' may_go_on' : Bool)
    → Reads sought before mid window found is_ended may_go_on → Fills mid now is_ended' window filled
    → TakesAll sought filled window' found found' may_go_on'
    → Reads sought before now window' found' is_ended' may_go_on'
reads_next sought before mid now window filled window' found found' is_ended may_go_on is_ended' may_go_on' r f t =
    let k = t.is r.front r.is in
    record {
      front = r.front ++ t.taken;
      given = subst (Consumes before now) all
          (consumes_on before mid now (r.front ++ window.bytes) f.more r.given f.given);
      total =
          let a = r.total in
          let b = f.total in
          let c = length-append (r.front ++ window.bytes) f.more in
          let d = ap length all in
          let e = t.total in
          omega (arith, a, b, c, d, e);
      limit = subst (λ n. n ≤ 2 ^ 63 + 1_114_182) (sym t.total) f.limit;
      is = k.0;
      follows = k.1;
      statements = t.statements;
      lines = t.lines;
      ended = f.ended;
    }
  where
    all : (r.front ++ window.bytes) ++ f.more ≡ (r.front ++ t.taken) ++ window'.bytes
    all = append_assoc r.front window.bytes f.more ∙ ap (λ (z : List ℕ). r.front ++ z) (sym f.bytes ∙ t.bytes)
        ∙ sym (append_assoc r.front t.taken window'.bytes)

-- a beginning of a statement is not longer than a statement
torn_short : (front bytes : List ℕ) → BeginsOne front bytes → length bytes ≤ 1_048_646
torn_short front bytes o =
    let words : List ℕ = hash_words (with_text front o.text) in
    let a = ap length o.begins.parts in
    let b = length-append bytes o.begins.rest in
    let c = length-append (o.text ++ 59 ∷ 10 ∷ []) (line_after hash_words (with_text front o.text)) in
    let d = length-append o.text (59 ∷ 10 ∷ []) in
    let e = length-append words (10 ∷ []) in
    let f = length-encode_with lower_digits (sha256 (with_text front o.text)) in
    let g = length-sha256 (with_text front o.text) in
    let h = o.is_text.short in
    omega (arith, a, b, c, d, e, f, g, h)

-- a window that is filled again has more
pub full_grows : (sought : List ℕ) (before mid now : Option (List ℕ)) (window filled : Seen) (found : Found)
    (is_ended : Bool) → Reads sought before mid window found false true → Fills mid now is_ended window filled
    → IsFalse is_ended → window.total < filled.total
full_grows sought before mid now window filled found is_ended r f e =
    let short = torn_short r.front window.bytes r.follows.1 in
    let full = f.full e in
    let all = ap length f.bytes ∙ length-append window.bytes f.more in
    let sum = f.total in
    omega (arith, short, full, all, sum)

pub fewer_left : (is_ended : Bool) (total total' : ℕ) → total ≤ 2 ^ 63 + 1_114_182 → total' ≤ 2 ^ 63 + 1_114_182
    → (is_ended ≡ false → total < total') → suc (cond is_ended 0 (2 ^ 64 - total')) ≤ 2 ^ 64 - total
fewer_left true total total' l m f = omega (arith, l)
fewer_left false total total' l m f = let a = f refl in omega (arith, l, m, a)

-- the measure of the loop
pub loop_ends : (sought : List ℕ) (before mid now : Option (List ℕ)) (window filled : Seen) (found : Found)
    (is_ended may_go_on ended : Bool) (total : ℕ) → Reads sought before mid window found is_ended may_go_on
    → may_go_on ≡ true → is_ended ≡ false → Fills mid now ended window filled → total ≡ filled.total
    → suc (cond ended 0 (2 ^ 64 - total)) ≤ cond is_ended 0 (2 ^ 64 - window.total)
loop_ends sought before mid now window filled found is_ended may_go_on ended total k m e f t =
    let reads = subst (λ b. Reads sought before mid window found b true) e
    (subst (λ b. Reads sought before mid window found is_ended b) m k) in
    subst (λ n. suc (cond ended 0 (2 ^ 64 - n)) ≤ cond is_ended 0 (2 ^ 64 - window.total)) (sym t)
    (subst (λ b. suc (cond ended 0 (2 ^ 64 - filled.total)) ≤ cond b 0 (2 ^ 64 - window.total)) (sym e)
    (fewer_left ended window.total filled.total k.limit f.limit
    (full_grows sought before mid now window filled found ended reads f)))

-- the first window fits into the count
pub room_first : (before now : Option (List ℕ)) (old filled skipped : Seen) (is_ended : Bool) (end : ℕ)
    → Fills before now is_ended old filled → old.bytes ≡ [] → old.total ≡ 0 → skipped.bytes ≡ drop 17 filled.bytes
    → end ≡ 17 → end + length skipped.bytes < 2 ^ 64
room_first before now old filled skipped is_ended end f o z b e =
    let left = ap length b ∙ length-drop 17 filled.bytes in
    let all = ap length f.bytes ∙ ap (λ (x : List ℕ). length (x ++ f.more)) o in
    let sum = f.total in
    let limit = f.limit in
    omega (arith, left, all, sum, limit, z, e)

-- ---- lines

pub no_line_here : (bytes : List ℕ) (i : ℕ) → i < length bytes → begins_line (drop i bytes) ≡ false
    → has_line (drop i bytes) ≡ has_line (drop (i + 1) bytes)
no_line_here bytes i l f =
    let parts = drop_more bytes i 0 l in
    ap has_line parts ∙ ap (λ t. t || has_line (drop (i + 1) bytes)) (sym (ap begins_line parts) ∙ f)

both_no : (x y z : Bool) → y ≡ false → x && y && z ≡ false
both_no true y z e = ap (λ t. t && z) e
both_no false y z e = refl

no_fifth : (x y z w t : Bool) → t ≡ false → x && y && z && w && t ≡ false
no_fifth true true true true t e = e
no_fifth true true true false t e = refl
no_fifth true true false w t e = refl
no_fifth true false z w t e = refl
no_fifth false y z w t e = refl

-- few bytes have no line
short_none : (bytes : List ℕ) → length bytes ≤ 64 → has_line bytes ≡ false
short_none [] l = refl
short_none (x ∷ bytes) l =
    ap (λ t. t || has_line bytes) (not_begun (x ∷ bytes) l) ∙ short_none bytes (omega (arith, l))
  where
    not_begun : (bs : List ℕ) → length bs ≤ 64 → begins_line bs ≡ false
    not_begun [] l = refl
    not_begun (a ∷ []) l = refl
    not_begun (a ∷ b ∷ []) l = refl
    not_begun (a ∷ b ∷ c ∷ []) l = refl
    not_begun (a ∷ b ∷ c ∷ d ∷ bs) l = no_fifth (a == 10) (b == 45) (c == 45) (d == 32) (is_line bs)
        (both_no (prefix_len is_digit bs == 64) (nat_lt 64 (length bs)) (slice_index bs 64 == 10)
        (le-ltb 64 (length bs) (omega (arith, l))))

-- ---- a file without the first line

head_begins : (bytes : List ℕ) → Begins bytes head → length bytes ≤ 17
head_begins bytes b = let a = ap length b.parts in let c = length-append bytes b.rest in omega (arith, a, c)

pub head_short : (bytes : List ℕ) (kind : rest.Rest) → IsHeadRest bytes kind → IsFalse (is_damaged kind)
    → length bytes ≤ 17
head_short bytes r.Nothing k d = omega (arith, k)
head_short bytes r.Torn k d = head_begins bytes k.1
head_short bytes r.Damaged k d = absurd (cc)

-- what is found there
abbrev without : Seal → rest.Rest → ℕ → Found
without seal kind size = record {
  seal = seal;
  end = 0;
  statements = 0;
  lines = 0;
  last = None;
  has_line = false;
  rest = kind;
  size = size;
}

headless_in : (sought bytes : List ℕ) (seal : Seal) (size : ℕ) (kind : rest.Rest) → HoldsBytes seal head
    → (Begins head bytes → ⊥) → IsRest bytes bytes kind
    → IsFound sought bytes (without seal kind size)
headless_in sought bytes seal size kind s f k = record {
  front = [];
  tail = bytes;
  parts = refl;
  journal = inr (record {
    empty = refl;
    none = no_head bytes f;
    seal = s;
    end = refl;
    statements = refl;
    lines = refl;
    last = refl;
    has_line = refl;
  });
  rest = k;
}

never_begins : (bytes more : List ℕ) → (Begins head bytes → ⊥) → (Begins bytes head → ⊥) → IsNoBeginning (bytes ++ more)
never_begins bytes more f g whole texts j b =
    let k = journal_first head texts in
    elim (either_begins bytes head (more ++ b.rest) k.rest
    (sym (append_assoc bytes more b.rest) ∙ sym b.parts ∙ j.is ∙ k.parts)) [
      | inl x ↦ g x
      | inr x ↦ f x
    ]

pub headless : (sought bytes : List ℕ) (seal : Seal) (size : ℕ) (kind : rest.Rest) → HoldsBytes seal head
    → (Begins head bytes → ⊥) → IsHeadRest bytes kind
    → IsHeadless sought bytes (without seal kind size)
headless sought bytes seal size kind s f k = record {
  whole = λ d. headless_in sought bytes seal size kind s f (whole kind k d);
  damaged = λ d more. headless_in sought (bytes ++ more) seal size kind s (never kind k d more) (damaged kind k d more);
}
  where
    whole : (kind : rest.Rest) → IsHeadRest bytes kind → IsFalse (is_damaged kind) → IsRest bytes bytes kind
    whole r.Nothing k d = of_no_length bytes k
    whole r.Torn k d =
        let short = head_begins bytes k.1 in (
          k.0,
          short_none bytes (omega (arith, short)),
          record { whole = head; texts = []; journal = record { are = tt; is = refl }; begins = k.1 },
        )
    whole r.Damaged k d = absurd (cc)

    never : (kind : rest.Rest) → IsHeadRest bytes kind → IsTrue (is_damaged kind) → (more : List ℕ)
        → Begins head (bytes ++ more) → ⊥
    never r.Nothing k d more = absurd (cc)
    never r.Torn k d more = absurd (cc)
    never r.Damaged k d more = other_ever bytes head f k more

    damaged : (kind : rest.Rest) → IsHeadRest bytes kind → IsTrue (is_damaged kind) → (more : List ℕ)
        → IsRest (bytes ++ more) (bytes ++ more) kind
    damaged r.Nothing k d more = absurd (cc)
    damaged r.Torn k d more = absurd (cc)
    damaged r.Damaged k d more = inl (never_begins bytes more f k)

-- what was read of such a file
pub read_headless : (sought : List ℕ) (before now : Option (List ℕ)) (old filled : Seen) (found : Found)
    (is_ended : Bool) → Fills before now is_ended old filled → old.bytes ≡ [] → old.total ≡ 0
    → found.size ≡ filled.total → IsHeadless sought filled.bytes found
    → (IsFalse (is_damaged found.rest) → length filled.bytes ≤ 17) → IsReadOf before now sought found
read_headless sought before now old filled found is_ended f o z size h short = record {
  bytes = filled.bytes;
  given = subst (Consumes before now) (sym given) f.given;
  size = let a = f.total in let b = ap length given in omega (arith, a, b, z, size);
  is_ended = not (is_damaged found.rest);
  whole = λ d. ap not d;
  ended = λ e. ended is_ended refl (undamaged (is_damaged found.rest) e);
  is = λ more e. by (is_damaged found.rest) refl more e;
}
  where
    given : filled.bytes ≡ f.more
    given = f.bytes ∙ ap (λ (z : List ℕ). z ++ f.more) o

    undamaged : (t : Bool) → not t ≡ true → t ≡ false
    undamaged true e = absurd (cc)
    undamaged false e = refl

    ended : (t : Bool) → is_ended ≡ t → IsFalse (is_damaged found.rest) → IsAtEnd now
    ended true q d = f.ended q
    ended false q d = let full = f.full q in let few = short d in absurd (omega (arith, full, few))

    by : (t : Bool) → is_damaged found.rest ≡ t → (more : List ℕ) → (not (is_damaged found.rest) ≡ true → more ≡ [])
        → IsFound sought (filled.bytes ++ more) found
    by true q more e = h.damaged q more
    by false q more e = subst (λ (z : List ℕ). IsFound sought z found)
        (sym (ap (λ (z : List ℕ). filled.bytes ++ z) (e (ap not q)) ∙ append-nil filled.bytes)) (h.whole q)
