-- `tqlc_call` lends the host to `answer` for the call, hands on what C lent it, and has the host back.
use Rattle.tql_c.proofs.Steps.{◌≡◌, ℕ, List, [], ◌∷◌, refl, ap, length, MutBor, proved, full_share, id⊢, Lft, ftrue}
use Rattle.tql_c.proofs.Steps.{flft, fres, flent, named, Val, vunit, vptr, fact, tables, ‵, raw, ◌⊛◌, some, later, prop}
use Rattle.tql_c.proofs.Steps.{◌$◌, ◌∵◌, !, qed, done, move, drop, use1, use2, use3, split, join, fsplit, fjoin, feq_i}
use Rattle.tql_c.proofs.Steps.{feq_l, pick, await, rewrite, regoal, suffices, frame, group, enter, of_opd, unit_lit}
use Rattle.tql_c.proofs.Steps.{addr, stop, fld, hop, no_more, and_then, returns, alloc_all, pass_all, free_all, look_at}
use Rattle.tql_c.proofs.Steps.{get, through, sets, lands_as, lft_new, lft_end, u8, unit, yes, mem, part_at, Body, Ptr}
use Rattle.tql_c.proofs.Steps.{RawPtr, block_ptr, lies_at, in_a_block, rawptr_vals, rawptr_Tells, MutRef, mut_vals}
use Rattle.tql_c.proofs.Steps.{mut_Tells, ShrSlice, slice_val, shr_slice_vals, shr_slice_Tells, lends_ref, ref_back}
use Rattle.tql_c.proofs.Steps.{plain, shr_slice_of, nothing, heard, only, calls_at, lasts, triple_of, Stays, walk_of}
use Rattle.tql_c.proofs.Steps.{says, stay_dropped, Goes-dropped, ends_at, framed}
use prog.Wp.{WpFn}
use types.Kit.{fpack}
use types.Run.{from}
use types.Part.{agg, sub, whole}
use types.ByLocal.{look_in_at, get_in}
use denote.RawPtr.{ptr_val}
use denote.Ref.{ShrRef, shr_vals, shr_Tells}
use denote.Slice.{MutSlice, mut_slice_vals, mut_slice_Tells}
use denote.Signature.{shr_ref_to}
use denote.Triple.Clauses.{Lasts}
use denote.Triple.Walked.{gave_ref, gave_slice, Goes-gave_ref, Goes-gave_slice}
use Rattle.tql_host.specs.declared.host.Host.{Host}
use Rattle.tql_host.specs.contracts.host.Host.{the_row as R}
use Rattle.tql_host_cells.specs.declared.requests.Told.{Told}
use Rattle.tql_host_cells.specs.contracts.requests.Told.{the_row as T}
use Rattle.tql_host_cells.specs.contracts.requests.Request.{the_row as Q}
use Rattle.tql_host.specs.Serving.{Answers, Sent}
use Rattle.tql_c.specs.contracts.tqlc_call as f
use Rattle.tql_c.proofs.tqlc_call.Statement.{statement}
use Rattle.tql_c.proofs.tqlc_call.Code as code
use Rattle.tql_host.specs.contracts.host.answer as g
use Rattle.tql_host.proofs.host.answer.Met.{met}

abbrev stayed : Stays f.ended.signature.params f.ended.kept
stayed = (
  stay_dropped _ yes,
  (
    stay_dropped _ yes,
    (
      stay_dropped _ yes,
      (
        gave_slice (2 ∷ []) tt (plain (λ _. u8)),
        (gave_ref (3 ∷ []) tt (plain (λ _. T)), tt),
      ),
    ),
  ),
)

pub tqlc_call_spec : {M : Type 1} → statement M
tqlc_call_spec 𝓤 𝓛 𝓜 𝓡 wired =
    let c = f.clauses 𝓛 𝓜.mem 𝓡.returns in let W = walk_of 𝓛 f.ended stayed c in let 𝓣 = tables 𝓤 𝓛.H 𝓜 𝓡 𝓡.env in
    proved 𝓛 f.ended stayed c 𝓜 𝓡 (
      Goes-dropped 𝓛 4 (plain (λ _. RawPtr)) yes (λ κs x w. refl),
      (
        Goes-dropped 𝓛 4 (shr_ref_to (0 ∷ []) tt (plain (λ _. Q))) yes (λ κs x w. refl),
        (
          Goes-dropped 𝓛 4 (shr_slice_of (1 ∷ []) tt (plain (λ _. u8))) yes (λ κs x w. refl),
          (
            Goes-gave_slice 𝓛 4 2 tt
                (plain (λ _. u8)),
            (Goes-gave_ref 𝓛 4 3 tt (plain (λ _. T)), tt),
          ),
        ),
      ),
    )
    f.Key.name code.function (code.unfolded 𝓤 𝓛.H 𝓜 𝓡 wired)
    (λ κs. (rawptr_vals, (shr_vals, (shr_slice_vals, (mut_slice_vals, (mut_vals, tt))))))
    (λ κs. (
      rawptr_Tells,
      (
        shr_Tells (named 0) κs.0 Q,
        (
          shr_slice_Tells (named 1) κs.1.0 u8,
          (
            mut_slice_Tells (named 2)
                κs.1.1.0 u8,
            (mut_Tells (named 3) κs.1.1.1.0 T, tt),
          ),
        ),
      ),
    ))
    (λ κs qs bounds a host are.
    let q = a.1.0 in let s = a.1.1.0 in let m = a.1.1.1.0 in let t = a.1.1.1.1.0 in
    let vals : List Val × (List Val × (List Val × (List Val × Unit {0}))) = (
      shr_vals q,
      (
        shr_slice_vals s,
        (mut_slice_vals m, (mut_vals t, tt)),
      ),
    ) in
    let y : Ptr → W.Ghost = λ p. ((κs, qs, bounds, (p, a.1), (rawptr_vals p, vals)), host) in
    let toks = ‵ (flft κs.0 qs.0) ⊛ ‵ (flft κs.1.0 qs.1.0) ⊛ ‵ (flft κs.1.1.0 qs.1.1.0) ⊛ ‵ (flft κs.1.1.1.0
    qs.1.1.1.0) ⊛ ‵ ftrue in
    let handed = ‵ ((ShrRef (named 0) κs.0 Q).own_val q (shr_vals q)) ⊛ ‵ ((ShrSlice (named 1) κs.1.0 u8).own_val s
    (shr_slice_vals s)) ⊛
    ‵ ((MutSlice (named 2) κs.1.1.0 u8).own_val m (mut_slice_vals m)) ⊛ ‵ ((MutRef (named 3) κs.1.1.1.0 T).own_val t
    (mut_vals t)) ⊛ ‵ ftrue in
    qed 𝓛 ((toks ⊛ ‵ (RawPtr.own_val a.0 (rawptr_vals a.0)) ⊛ handed) ∷ ‵ (lies_at R full_share a.0 host) ∷ []) ∵ move
    ! (1 ∷ []) $
    in_a_block ! a.0 (λ p. lies_at R full_share p host) (id⊢ 𝓤 _) (λ b o e.
    regoal ! (λ p. prop (WpFn 𝓤 𝓛.H 𝓣.C 𝓣.Λ code.function (ptr_val p ∷ vptr q.ref_ptr.0 q.ref_ptr.1 ∷ slice_val
    s.ref_ptr (length s.now) ∷ slice_val m.ref_ptr (length m.now) ∷ vptr t.ref_ptr.0 t.ref_ptr.1 ∷ []) (W.post (y
    p)))) e refl $
    move ! (1 ∷ []) $ split ! $ move ! (1 ∷ []) $ split ! $ drop ! $ move ! (2 ∷ []) $
    -- [the host; what is handed on; the tokens of its lifetimes]
    enter ! _ _ _ _ _ $ alloc_all ! (λ l. pass_all ! refl (
      (tt, tt),
      (
        (tt, tt),
        (
          (
            tt,
            (
              tt,
              (
                record {
                  fits =
                      are.1.1.0.0.1.0;
                },
                tt,
              ),
            ),
          ),
          ((tt, (tt, (record { fits = are.1.1.1.0.0.1.0 }, tt))), ((tt, tt), tt)),
        ),
      ),
    ) $
    -- &mut *(at as *mut Host); &mut *room; &mut *told
    sets ! (of_opd ! (get ! refl)) refl (tt, tt) $ sets ! (addr ! (through ! refl (stop !))) refl (tt, tt) $
    sets ! (addr ! (from ! (fld ! refl (hop ! (look_in_at ! 4 (sub ! 0 refl (whole !))) (stop !))))) refl (tt, tt) $
    sets ! (agg ! (and_then ! (get ! refl) (and_then ! (get_in ! (fld ! refl (stop !)) (sub ! 1 refl (whole !)))
    (no_more !)))) refl (tt, (tt, (record { fits = are.1.1.1.0.0.1.0 }, tt))) $
    sets ! (addr ! (through ! refl (stop !))) refl (tt, tt) $
    lft_new ! tt (λ α. let κ : Lft = α ∷ [] in move ! (1 ∷ []) $
    use1 𝓛 (later (some (λ (γ : ℕ). ‵ ((MutRef (named 0) κ R).own_val (record {
      ref_ptr = (b, o);
      ghost_name = γ;
      now =
          host;
    }) (vptr b o ∷ [])) ⊛ ‵ (flent κ (Body (mem R) b o γ)))))
    (lends_ref 𝓛 R (named 0) κ host b o) $ await ! tt $ pick ! (λ γ. split ! $
    -- [the loan; the lender's right; its token; what is handed on; the tokens]
    let loan : MutBor Host = record { ref_ptr = (b, o); ghost_name = γ; now = host } in
    let G = triple_of 𝓛 g.signature (g.spec 𝓛 𝓜.mem 𝓡.returns) in
    let z : G.Ghost = (((κ, κs), (full_share, qs), tt, (loan, a.1), (vptr b o ∷ [], vals)), tt) in
    let sent : Sent = record { request = q.now; text = s.now; room = m.now } in
    let Said = λ (h : Host) (x : Told) (r : List ℕ). Answers sent host h (record { told = x; room = r }) in
    move ! (0 ∷ 3 ∷ []) $ join ! $ move ! (2 ∷ 3 ∷ []) $ join ! $ join ! $ nothing ! $ move ! (1 ∷ 0 ∷ []) $ use2 𝓛
    (raw (G.pre z)) (id⊢ 𝓤 _) $
    -- answer(.., request, text, room, told)
    calls_at ! (framed 𝓤 𝓛.H 𝓜 𝓣) G (met 𝓤 𝓛 𝓜 𝓡 (code.calls-tql_host::host::answer 𝓡.env wired)) z
    (and_then ! (get ! refl) (and_then ! (get ! refl) (and_then ! (get ! refl) (and_then ! (get ! refl) (and_then !
    (get ! refl) (no_more !)))))) (λ v.
    use1 𝓛 (later (some (λ (r : Unit {0}). ((‵ (flft κ full_share) ⊛ toks) ⊛ ‵ (unit.own_val r (v ∷ []))) ⊛
    some (λ (ws : Lasts g.ended z.0.0 z.0.3). ‵ (lasts g.ended z.0.0 z.0.3 ws) ⊛ raw (fact 𝓤 (Said ws.0 ws.1.1.1.1.0
    ws.1.1.1.0)))))) (id⊢ 𝓤 _) $
    await ! tt $ pick ! (λ r. split ! $ split ! $ split ! $ lft_end ! tt $
    -- [the loan's lifetime is over; the tokens; the result; the rest; the lender's right]
    move ! (3 ∷ []) $ pick ! (λ ws. split ! $ move ! (1 ∷ []) $ heard ! (Said ws.0 ws.1.1.1.1.0 ws.1.1.1.0) (λ said.
    fsplit ! $ fsplit ! $
    move ! (3 ∷ 6 ∷ 0 ∷ []) $ use3 𝓛 (later (‵ (part_at R full_share ws.0 b o))) (ref_back 𝓛 R κ γ ws.0 b o) $ await !
    tt $ move ! (1 ∷ []) $ drop ! $
    -- [the host; what is left of what was handed on; the tokens; the result]: it says that the slice is as long as it
    -- was, which `gave_slice` does not hold
    move ! (1 ∷ []) $ fsplit ! $ drop ! $ fsplit ! $ drop ! $ fsplit ! $ fsplit ! $ fsplit ! $ move ! (1 ∷ []) $ feq_l
    ! (λ same. fjoin ! $ fjoin ! $
    nothing ! $ fjoin ! $ nothing ! $ fjoin ! $ nothing ! $ fjoin ! $
    move ! (3 ∷ []) $ feq_l ! (λ is_unit. lands_as ! (ap only is_unit) refl (tt, tt) $ sets ! (of_opd ! (unit_lit !))
    refl (tt, tt) $
    returns ! (look_at ! 0 refl) $ free_all ! refl $
    suffices ! _ (ends_at 𝓛 f.ended stayed c (y (block_ptr b o)) vunit tt (tt, ws.1) (
      tt,
      (
        tt,
        (
          tt,
          (
            same,
            (
              tt,
              tt,
            ),
          ),
        ),
      ),
    )) $
    move ! (1 ∷ []) $ fpack ! ((h : Host) × Said h ws.1.1.1.1.0 ws.1.1.1.0) (λ p. part_at R full_share p.0 b o) (
      ws.0,
      said,
    ) $
    feq_i ! _ (vunit ∷ []) _ refl $ move ! (3 ∷ 2 ∷ 0 ∷ []) $ group ! 3 $ done !)))))))))))
