-- `tqlc_end` moves the host out, and ends it.
use Rattle.tql_c.proofs.Steps.{[], ◌∷◌, refl, ap, proved, full_share, id⊢, ftrue, fat, Val, vunit, tables, ‵, raw, ◌⊛◌}
use Rattle.tql_c.proofs.Steps.{some, later, prop, ◌$◌, ◌∵◌, !, qed, done, move, drop, use1, use2, split, join, feq_i}
use Rattle.tql_c.proofs.Steps.{feq_l, pick, await, regoal, suffices, group, enter, of_opd, unit_lit, load, look, stop}
use Rattle.tql_c.proofs.Steps.{no_more, and_then, returns, alloc_all, pass_all, free_all, look_at, get, through, sets}
use Rattle.tql_c.proofs.Steps.{lands_as, unit, yes, Is, shows, Ptr, RawPtr, block_ptr, lies_at, in_a_block, rawptr_vals}
use Rattle.tql_c.proofs.Steps.{rawptr_Tells, plain, nothing, peeks, only, calls_at, lasts, on_entry, triple_of, Stays}
use Rattle.tql_c.proofs.Steps.{walk_of, stay_dropped, Goes-dropped, ends_at, framed}
use prog.Wp.{WpFn}
use base.Fml.{froom}
use denote.Memory.{lone}
use denote.Triple.Clauses.{Lasts}
use borrow.Table.OneValue.{part_out}
use Rattle.tql_host.specs.contracts.host.Host.{the_row as R}
use Rattle.tql_host.proofs.host.Host.TheLaws.{the_row_laws}
use Rattle.tql_c.specs.contracts.tqlc_end as f
use Rattle.tql_c.proofs.tqlc_end.Statement.{statement}
use Rattle.tql_c.proofs.tqlc_end.Code as code
use Rattle.tql_host.specs.contracts.host.ended as g
use Rattle.tql_host.proofs.host.ended.Met.{met}

abbrev stayed : Stays f.ended.signature.params f.ended.kept
stayed = (stay_dropped _ yes, tt)

pub tqlc_end_spec : {M : Type 1} → statement M
tqlc_end_spec 𝓤 𝓛 𝓜 𝓡 wired =
    let c = f.clauses 𝓛 𝓜.mem 𝓡.returns in let W = walk_of 𝓛 f.ended stayed c in let 𝓣 = tables 𝓤 𝓛.H 𝓜 𝓡 𝓡.env in
    proved 𝓛 f.ended stayed c 𝓜 𝓡 (Goes-dropped 𝓛 0 (plain (λ _. RawPtr)) yes (λ κs x w. refl), tt)
    f.Key.name code.function (code.unfolded 𝓤 𝓛.H 𝓜 𝓡 wired)
    (λ κs. (rawptr_vals, tt)) (λ κs. (rawptr_Tells, tt)) (λ κs qs bounds a host are.
    let y : Ptr → W.Ghost = λ p. ((κs, qs, bounds, (p, tt), (rawptr_vals p, tt)), host) in
    qed 𝓛 (raw (on_entry 𝓛 f.signature κs qs a (y a.0).0.4) ∷ ‵ (lies_at R full_share a.0 host) ∷ []) ∵ drop ! $
    in_a_block ! a.0 (λ p. lies_at R full_share p host) (id⊢ 𝓤 _) (λ b o e.
    regoal ! (λ p. prop (WpFn 𝓤 𝓛.H 𝓣.C 𝓣.Λ code.function (rawptr_vals p) (W.post (y p)))) e refl $
    use1 𝓛 (some (λ (v : Val). ‵ (fat full_share (lone R.mir) b o v) ⊛ ‵ (R.own_val host (v ∷ [])))) (part_out 𝓛 R refl
    full_share host b o) $ pick ! (λ v. split ! $ move ! (1 ∷ []) $
    peeks ! R (Is R) (shows 𝓛 R) host (v ∷ []) (λ is. let typed = ((the_row_laws.lawful 𝓛).typed host _ is).0 in
    -- [what the host owns; its cell]
    enter ! _ _ _ _ _ $ alloc_all ! (λ l. pass_all ! refl ((tt, tt), tt) $
    sets ! (of_opd ! (get ! refl)) refl (tt, tt) $ sets ! (of_opd ! (load ! (through ! refl (stop !)) (look ! 1 refl)))
    refl typed $
    -- ended(..)
    let G = triple_of 𝓛 g.signature (g.spec 𝓛 𝓜.mem 𝓡.returns) in let z : G.Ghost = (
      (
        tt,
        tt,
        tt,
        (host, tt),
        (
          v ∷ [],
          tt,
        ),
      ),
      tt,
    ) in
    nothing ! $ move ! (1 ∷ 0 ∷ []) $ join ! $ nothing ! $ join ! $ nothing ! $ move ! (1 ∷ 0 ∷ []) $ use2 𝓛 (raw
    (G.pre z)) (id⊢ 𝓤 _) $
    calls_at ! (framed 𝓤 𝓛.H 𝓜 𝓣) G (met 𝓤 𝓛 𝓜 𝓡 (code.calls-tql_host::host::ended 𝓡.env wired)) z (and_then ! (get !
    refl) (no_more !)) (λ u.
    use1 𝓛 (later (some (λ (r : Unit {0}). (‵ ftrue ⊛ ‵ (unit.own_val r (u ∷ []))) ⊛ some (λ (ws : Lasts g.ended z.0.0
    z.0.3). ‵ (lasts g.ended z.0.0 z.0.3 ws) ⊛ ‵ ftrue)))) (id⊢ 𝓤 _) $
    await ! tt $ pick ! (λ r. split ! $ split ! $ drop ! $ feq_l ! (λ is_unit. pick ! (λ ws. split ! $ drop ! $ drop ! $
    lands_as ! (ap only is_unit) refl (tt, tt) $ sets ! (of_opd ! (unit_lit !)) refl (tt, tt) $
    returns ! (look_at ! 0 refl) $ free_all ! refl $
    use1 𝓛 (‵ (froom (lone R.mir) b o)) (𝓛.laws.at_room (lone R.mir) b o v) $
    suffices ! _ (ends_at 𝓛 f.ended stayed c (y (block_ptr b o)) vunit tt (tt, tt) (tt, tt)) $
    feq_i ! _ (vunit ∷ []) _ refl $ nothing ! $ nothing ! $ join ! $ nothing ! $ group ! 3 $ done !)))))))))
