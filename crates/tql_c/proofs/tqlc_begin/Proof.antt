-- `tqlc_begin` writes a host into the room.
use Rattle.tql_c.proofs.Steps.{◌≡◌, [], ◌∷◌, refl, proved, full_share, id⊢, ftrue, vunit, fact, tables, ‵, raw, ◌⊛◌}
use Rattle.tql_c.proofs.Steps.{some, later, prop, ◌$◌, ◌∵◌, !, qed, done, move, drop, use1, use2, split, join, feq_i}
use Rattle.tql_c.proofs.Steps.{pick, await, rewrite, regoal, suffices, group, enter, of_opd, unit_lit, stop, no_more}
use Rattle.tql_c.proofs.Steps.{and_then, returns, assigns, alloc_all, pass_all, free_all, look_at, get, through, sets}
use Rattle.tql_c.proofs.Steps.{lands_as, yes, Is, shows, part_at, Ptr, RawPtr, block_ptr, in_a_block, rawptr_vals}
use Rattle.tql_c.proofs.Steps.{rawptr_Tells, plain, nothing, heard, peeks, calls_at, lasts, triple_of, Stays, walk_of}
use Rattle.tql_c.proofs.Steps.{stay_dropped, Goes-dropped, ends_at, framed}
use prog.Wp.{WpFn}
use types.Run.{init}
use denote.RawPtr.{room_at}
use borrow.Table.OneValue.{part_in}
use denote.RawPtr.{ptr_val}
use denote.Triple.Clauses.{Lasts}
use denote.Struct.Laws.{val, tells}
use Rattle.std.specs.contracts.alloc.Global.{the_row as A, the_type as a_type}
use Rattle.std.proofs.alloc.Global.TheLaws.{the_laws as a_laws, the_row_laws as a_row_laws}
use Rattle.tql_host.specs.declared.host.Host.{Host}
use Rattle.tql_host.specs.contracts.host.Host.{the_row as R}
use Rattle.tql_host.proofs.host.Host.TheLaws.{the_row_laws}
use Rattle.tql_host.specs.Serving.{fresh}
use Rattle.tql_c.specs.contracts.tqlc_begin as f
use Rattle.tql_c.proofs.tqlc_begin.Statement.{statement}
use Rattle.tql_c.proofs.tqlc_begin.Code as code
use Rattle.tql_host.specs.contracts.host.begun as g
use Rattle.tql_host.proofs.host.begun.Met.{met}

abbrev stayed : Stays f.ended.signature.params f.ended.kept
stayed = (stay_dropped _ yes, (stay_dropped _ yes, tt))

pub tqlc_begin_spec : {M : Type 1} → statement M
tqlc_begin_spec 𝓤 𝓛 𝓜 𝓡 wired =
    let c = f.clauses 𝓛 𝓜.mem 𝓡.returns in let W = walk_of 𝓛 f.ended stayed c in let 𝓣 = tables 𝓤 𝓛.H 𝓜 𝓡 𝓡.env in
    proved 𝓛 f.ended stayed c 𝓜 𝓡 (
      Goes-dropped 𝓛 0 (plain (λ _. A)) yes (λ κs x w. refl),
      (
        Goes-dropped 𝓛 0 (plain (λ
            _. RawPtr)) yes (λ κs x w. refl),
        tt,
      ),
    )
    f.Key.name code.function (code.unfolded 𝓤 𝓛.H 𝓜 𝓡 wired)
    (λ κs. (λ x. val a_type a_laws x ∷ [], (rawptr_vals, tt))) (λ κs. (tells a_type a_laws, (rawptr_Tells, tt))) (λ κs
    qs bounds a none are.
    let p₀ = a.1.0 in let av = val a_type a_laws a.0 ∷ [] in
    let y : Ptr → W.Ghost = λ p. ((κs, qs, bounds, (a.0, (p, tt)), (av, (rawptr_vals p, tt))), none) in
    qed 𝓛 ((‵ ftrue ⊛ ‵ (A.own_val a.0 av) ⊛ ‵ (RawPtr.own_val p₀ (rawptr_vals p₀)) ⊛ ‵ ftrue) ∷ ‵ (room_at R p₀) ∷ [])
    ∵ move ! (1 ∷ []) $
    in_a_block ! p₀ (λ p. room_at R p) (id⊢ 𝓤 _) (λ b o e.
    regoal ! (λ p. prop (WpFn 𝓤 𝓛.H 𝓣.C 𝓣.Λ code.function (val a_type a_laws a.0 ∷ ptr_val p ∷ []) (W.post (y p)))) e
    refl $
    move ! (1 ∷ []) $ split ! $ drop ! $ split ! $ move ! (1 ∷ []) $ drop ! $
    -- [the allocator; the room]
    peeks ! A (Is A) (shows 𝓛 A) a.0 av (λ ais.
    enter ! _ _ _ _ _ $ alloc_all ! (λ l. pass_all ! refl (((a_row_laws.lawful 𝓛).typed a.0 _ ais).0, ((tt, tt), tt)) $
    let G = triple_of 𝓛 g.signature (g.spec 𝓛 𝓜.mem 𝓡.returns) in let z : G.Ghost = (
      (tt, tt, tt, (a.0, tt), (av, tt)),
      tt,
    ) in
    -- begun(alloc)
    nothing ! $ move ! (1 ∷ 0 ∷ []) $ join ! $ nothing ! $ join ! $ nothing ! $ move ! (1 ∷ 0 ∷ []) $ use2 𝓛 (raw
    (G.pre z)) (id⊢ 𝓤 _) $
    calls_at ! (framed 𝓤 𝓛.H 𝓜 𝓣) G (met 𝓤 𝓛 𝓜 𝓡 (code.calls-tql_host::host::begun 𝓡.env wired)) z (and_then ! (get !
    refl) (no_more !)) (λ v.
    use1 𝓛 (later (some (λ (r : Host). (‵ ftrue ⊛ ‵ (R.own_val r (v ∷ []))) ⊛ some (λ (ws : Lasts g.ended z.0.0 z.0.3).
    ‵ (lasts g.ended z.0.0 z.0.3 ws) ⊛ raw (fact 𝓤 (r ≡ fresh a.0)))))) (id⊢ 𝓤 _) $
    await ! tt $ pick ! (λ r. split ! $ split ! $ drop ! $ move ! (1 ∷ []) $ pick ! (λ _. split ! $ drop ! $ heard ! (r
    ≡ fresh a.0) (λ is_fresh.
    peeks ! R (Is R) (shows 𝓛 R) r (v ∷ []) (λ is. let typed = ((the_row_laws.lawful 𝓛).typed r _ is).0 in lands_as !
    refl refl typed $
    -- (room as *mut Host).write(host); [what the host owns; the room]
    sets ! (of_opd ! (get ! refl)) refl (tt, tt) $ sets ! (of_opd ! (get ! refl)) refl typed $ assigns ! (of_opd ! (get
    ! refl)) (through ! refl (stop !)) (init ! 1 refl typed) $
    sets ! (of_opd ! (unit_lit !)) refl (tt, tt) $
    returns ! (look_at ! 0 refl) $ free_all ! refl $
    move ! (1 ∷ 0 ∷ []) $ use2 𝓛 (‵ (part_at R full_share r b o)) (part_in 𝓛 R refl full_share r b o v) $
    rewrite ! 0 (λ (h : Host). ‵ (part_at R full_share h b o)) is_fresh refl $
    suffices ! _ (ends_at 𝓛 f.ended stayed c (y (block_ptr b o)) vunit tt (tt, (tt, tt)) (tt, (tt, tt))) $
    feq_i ! _ (vunit ∷ []) _ refl $ nothing ! $ nothing ! $ join ! $ nothing ! $ join ! $ nothing ! $ group ! 3 $ done
    !)))))))))
