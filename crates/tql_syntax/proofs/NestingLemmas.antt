-- The largest number of parentheses that are open at once.
use Rattle.std.specs.Prelude.{◌≡◌, refl, ℕ, suc, pred, max, ◌+◌, ◌-◌, ◌<◌, ◌≤◌, List, [], ◌∷◌, map, drop, length}
use Rattle.std.specs.Prelude.{get_or, take, ◌++◌}
use Rattle.std.proofs.Common.{arith, ap, sym, ◌∙◌, add-one}
use Rattle.std.proofs.Math.Seq.{drop-cons}
use Rattle.std.proofs.lemmas.List.{take_more, map-append}
use Rattle.tql_spec.specs.Token.{Token, Word, QuotedName, Number, Quote, Sign, Open, Close, depth, depth_from}
use Rattle.tql_lex.specs.Tokens.{token_of}
use Rattle.tql_lex.specs.declared.token.Token as code
use Rattle.tql_syntax.specs.Nesting.{open_behind}

-- the depth is at least the number of parentheses that are open already
open_at_once : (n : ℕ) (ts : List Token) → n ≤ depth_from n ts
open_at_once n [] = omega arith
open_at_once n (Word w ∷ ts) = open_at_once n ts
open_at_once n (QuotedName w ∷ ts) = open_at_once n ts
open_at_once n (Number w ∷ ts) = open_at_once n ts
open_at_once n (Quote w ∷ ts) = open_at_once n ts
open_at_once n (Sign Open ∷ ts) = omega arith
open_at_once n (Sign Close ∷ ts) = omega arith
open_at_once n (Sign _ ∷ ts) = open_at_once n ts

pub depth_from-cons : (n : ℕ) (t : Token) (ts : List Token)
    → depth_from n (t ∷ ts) ≡ max n (depth_from (open_behind n t) ts)
depth_from-cons n (Word w) ts = let h = open_at_once n ts in omega arith
depth_from-cons n (QuotedName w) ts = let h = open_at_once n ts in omega arith
depth_from-cons n (Number w) ts = let h = open_at_once n ts in omega arith
depth_from-cons n (Quote w) ts = let h = open_at_once n ts in omega arith
depth_from-cons n (Sign Open) ts = let e : n + 1 ≡ suc n = omega arith in rw e refl
depth_from-cons n (Sign Close) ts = let e : n - 1 ≡ pred n = omega arith in rw e refl
depth_from-cons n (Sign _) ts = let h = open_at_once n ts in omega arith

open_behind_bound : (n : ℕ) (t : Token) → open_behind n t ≤ n + 1
open_behind_bound n (Word w) = omega arith
open_behind_bound n (QuotedName w) = omega arith
open_behind_bound n (Number w) = omega arith
open_behind_bound n (Quote w) = omega arith
open_behind_bound n (Sign Open) = omega arith
open_behind_bound n (Sign Close) = omega arith
open_behind_bound n (Sign _) = omega arith

-- one more token: r parentheses are open after it, and m is the largest number so far
pub one_more_token : (l : List code.Token) (d : code.Token) (i n most r m : ℕ) → i < length l
    → depth (map token_of l) ≡ max most (depth_from n (map token_of (drop i l))) → n ≤ most
    → r ≡ open_behind n (token_of (get_or l i d)) → m ≡ max r most
    → depth (map token_of l) ≡ max m (depth_from r (map token_of (drop (i + 1) l)))
one_more_token l d i n most r m lt counted seen is_r is_m =
    let rest : List Token = map token_of (drop (suc i) l) in
    let token : Token = token_of (get_or l i d) in
    let here : depth_from n (map token_of (drop i l)) ≡ max n (depth_from r rest) =
    ap (λ (ts : List code.Token). depth_from n (map token_of ts)) (drop-cons l i d lt) ∙ depth_from-cons n token rest
    ∙ ap (λ (k : ℕ). max n (depth_from k rest)) (sym is_r) in
    let above = open_at_once r rest in
    let whole : depth (map token_of l) ≡ max m (depth_from r rest) = omega arith in
    rw add-one whole

pub one_more_open : (n r : ℕ) (t : Token) → r ≡ open_behind n t → r ≤ n + 1
one_more_open n r t is = let h = open_behind_bound n t in omega arith

-- ---- the tokens before the first parenthesis over the limit

-- the number of open parentheses after the tokens
abbrev pub open_after : ℕ → List Token → ℕ
open_after n [] = n
open_after n (t ∷ ts) = open_after (open_behind n t) ts

open_after-push : (n : ℕ) (ts : List Token) (t : Token) → open_after n (ts ++ t ∷ []) ≡ open_behind (open_after n ts) t
open_after-push n [] t = refl
open_after-push n (u ∷ ts) t = open_after-push (open_behind n u) ts t

depth_from-push : (n : ℕ) (ts : List Token) (t : Token)
    → depth_from n (ts ++ t ∷ []) ≡ max (depth_from n ts) (open_behind (open_after n ts) t)
depth_from-push n [] t = depth_from-cons n t []
depth_from-push n (u ∷ ts) t =
    let whole = depth_from-cons n u (ts ++ t ∷ []) in
    let front = depth_from-cons n u ts in
    let more = depth_from-push (open_behind n u) ts t in
    omega arith

-- the tokens up to this one
front_push : (l : List code.Token) (d : code.Token) (i : ℕ) → i < length l
    → map token_of (take (i + 1) l) ≡ map token_of (take i l) ++ token_of (get_or l i d) ∷ []
front_push l d i lt =
    ap (map token_of) (take_more l i d lt) ∙ map-append token_of (take i l) (get_or l i d ∷ [])

-- one more token: r parentheses are open after it, and where r is at most 64, the depth stays at most 64
pub one_more_shallow : (l : List code.Token) (d : code.Token) (i n r : ℕ) → i < length l
    → n ≡ open_after 0 (map token_of (take i l)) → depth (map token_of (take i l)) ≤ 64
    → r ≡ open_behind n (token_of (get_or l i d)) → r ≤ 64
    → (r ≡ open_after 0 (map token_of (take (i + 1) l))) × (depth (map token_of (take (i + 1) l)) ≤ 64)
one_more_shallow l d i n r lt is_n shallow is_r below =
    let front : List Token = map token_of (take i l) in
    let token : Token = token_of (get_or l i d) in
    let same : r ≡ open_behind (open_after 0 front) token = is_r ∙ ap (λ (k : ℕ). open_behind k token) is_n in
    let deeper = depth_from-push 0 front token in
    let bound : depth (front ++ token ∷ []) ≤ 64 = omega arith in
    rw (front_push l d i lt) (same ∙ sym (open_after-push 0 front token), bound)
