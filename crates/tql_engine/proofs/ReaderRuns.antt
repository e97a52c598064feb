-- A READ in a run answers as its query would have been answered when the reader was opened.
use Rattle.std.proofs.Common.{◌≡◌, refl, sym, ap, subst, ◌∙◌, arith, ℕ, List, [], ◌∷◌, ◌++◌, length, map, None, Ok, Err}
use Rattle.std.proofs.Common.{inl, inr}
use Rattle.std.specs.Prelude.{Result}
use Rattle.tql_spec.specs.Refusal.{OutOfMemory}
use Rattle.tql_spec.specs.Definition.{Name}
use Rattle.tql_spec.specs.Machine.{State, Reply, Done, Refused, OpenedReader}
use Rattle.tql_spec.specs.Meaning.{SensesAreOne}
use Rattle.tql_spec.specs.ReaderLaws.{IsOpenSince, Counts, ReadersAreStable, ReadsAgree}
use Rattle.tql_spec.specs.Script.{Piece, statements}
use Rattle.tql_spec.specs.Syntax.{Statement, SelectTree, OrderTree, OpenTree, ReadTree}
use Rattle.tql_spec.specs.Run.{Says, HasSense, Answers, Run, respond, respond_to, finished}
use Rattle.tql_run.specs.Responding.{Standing}
use Rattle.tql_run.specs.declared.runner.Summary.{Summary}
use Rattle.tql_run.specs.declared.runner.Fault.{Fault}
use Rattle.tql_run.specs.declared.runner.Fault.TheVariants.{Read, Write, Memory}
use Rattle.tql_engine.specs.Bytes.{RunsBytes}
use Rattle.tql_engine.specs.ReaderRuns.{HasRead, RunsReadStably, RunsReadAlike, BytesReadStably, Tells}
use Rattle.tql_engine.specs.ReaderRuns.{ScriptsReadAlike, StepsReadStably, StepsReadAlike}
use Rattle.tql_engine_state.specs.Stands.{StandsFor}
use Rattle.tql_engine.proofs.PointRuns.{steps_run}

-- ---- a run and its parts

-- two runs, the second after the first
run_on : (first : List Piece) (heard : List Reply) (old mid new : State) (more : List Piece) (told : List Reply)
    → Run old first heard mid → Run mid more told new → Run old (first ++ more) (heard ++ told) new
run_on [] [] old mid new more told r k = subst (λ s. Run s more told new) r k
run_on [] (h ∷ hs) old mid new more told r k = absurd r
run_on (f ∷ fs) [] old mid new more told r k = absurd r
run_on (f ∷ fs) (h ∷ hs) old mid new more told (s, a, r) k = (s, a, run_on fs hs s mid new more told r k)

-- a run, cut at one of its pieces
record CutAt (old : State) (first : List Piece) (heard : List Reply) (p : Piece) (r : Reply) (more : List Piece)
    (told : List Reply) (new : State) : Type 0 where
  before : State
  ran : Run old first heard before
  behind : State
  answers : Answers before p r behind
  on : Run behind more told new

cut_at : (first : List Piece) (heard : List Reply) (old new : State) (p : Piece) (r : Reply) (more : List Piece)
    (told : List Reply) → length heard ≡ length first → Run old (first ++ p ∷ more) (heard ++ r ∷ told) new
    → CutAt old first heard p r more told new
cut_at [] [] old new p r more told e (mid, a, on) =
    record { before = old; ran = refl; behind = mid; answers = a; on = on }
cut_at [] (h ∷ hs) old new p r more told e run = absurd (cc)
cut_at (f ∷ fs) [] old new p r more told e run = absurd (cc)
cut_at (f ∷ fs) (h ∷ hs) old new p r more told e (mid, a, on) =
    let k = cut_at fs hs mid new p r more told (omega (arith, e)) on in
    record { before = k.before; ran = (mid, a, k.ran); behind = k.behind; answers = k.answers; on = k.on }

-- a piece that says a statement is answered as the reference model responds to it, unless an allocation is refused
responded : SensesAreOne → (old new : State) (p : Piece) (t : Statement) (r : Reply) → HasSense p (Says t)
    → (r ≡ Refused OutOfMemory → ⊥) → Answers old p r new → ◌≡◌ {A = Reply × State} (r, new) (respond old t)
responded one old new p t r says memory (inl (sense, has, e)) =
    e ∙ ap (respond_to old) (one p sense (Says t) has says)
responded one old new p t r says memory (inr k) = absurd (memory k.0)

-- ---- a READ in a run

-- the states at the opening and at the READ
record IsReadIn (s : State) (before : List Piece) (heard : List Reply) (n : Name) (q : SelectTree)
    (keys : List OrderTree) (reply : Reply) : Type 0 where
  opening : State
  ran : Run s before heard opening
  now : State
  since : IsOpenSince opening now n
  same : reply ≡ (respond now (ReadTree n q keys)).0
  counts : Counts (respond now (ReadTree n q keys)).0

is_read : SensesAreOne → (s new : State) (pieces before : List Piece) (replies heard : List Reply) (n : Name)
    (q : SelectTree) (keys : List OrderTree) (reply : Reply) → Run s pieces replies new
    → HasRead pieces replies before heard n q keys reply → IsReadIn s before heard n q keys reply
is_read one s new pieces before replies heard n q keys reply run h =
    let ps : List Piece = h.between ++ h.reading ∷ h.after in
    let rs : List Reply = h.told ++ reply ∷ h.rest in
    let there : Run s (before ++ h.opening ∷ ps) (heard ++ Done OpenedReader None ∷ rs) new =
    subst (λ xs. Run s (before ++ h.opening ∷ ps) xs new) h.replies_are
    (subst (λ xs. Run s xs replies new) h.pieces_are run) in
    let o = cut_at before heard s new h.opening (Done OpenedReader None) ps rs h.opened_there there in
    let opens = responded one o.before o.behind h.opening (OpenTree n) (Done OpenedReader None) h.opens (λ e. cc)
    o.answers in
    let r = cut_at h.between h.told o.behind new h.reading reply h.after h.rest h.read_there o.on in
    let reads = responded one r.before r.behind h.reading (ReadTree n q keys) reply h.reads h.has_memory r.answers in
    let same : reply ≡ (respond r.before (ReadTree n q keys)).0 = ap (λ (x : Reply × State). x.0) reads in
    record {
      opening = o.before;
      ran = o.ran;
      now = r.before;
      since = record {
        opened = sym (ap (λ (x : Reply × State). x.0) opens);
        pieces = h.between;
        replies = h.told;
        run = subst (λ x. Run x h.between h.told r.before) (ap (λ (x : Reply × State). x.1) opens) r.ran;
        stays = h.stays;
      };
      same = same;
      counts = subst Counts same h.counts;
    }

-- ---- laws

pub runs_stable : SensesAreOne → ReadersAreStable → RunsReadStably
runs_stable one law s new pieces replies run old earlier answers led before heard n q keys reply h =
    let all = run_on earlier answers old s new pieces replies led run in
    let k = is_read one old new (earlier ++ pieces) before (answers ++ replies) heard n q keys reply all h in
    record {
      state = k.opening;
      ran = k.ran;
      same = k.same ∙ law k.opening k.now n k.since q keys k.counts;
    }

pub runs_alike : SensesAreOne → ReadsAgree → RunsReadAlike
runs_alike one law s new new' ones others replies replies' run run' old earlier answers led before heard n q keys reply
    reply' h h' =
    let all = run_on earlier answers old s new ones replies led run in
    let all' = run_on earlier answers old s new' others replies' led run' in
    let k = is_read one old new (earlier ++ ones) before (answers ++ replies) heard n q keys reply all h in
    let k' = is_read one old new' (earlier ++ others) before (answers ++ replies') heard n q keys reply' all' h' in
    k.same
    ∙ law old k.opening k'.opening k.now k'.now n before heard k.ran k'.ran k.since k'.since q keys k.counts k'.counts
    ∙ sym k'.same

-- ---- scripts in memory

pub bytes_stable : RunsReadStably → (s : State) (after : Standing) (script old new : List ℕ)
    (result : Result Summary Fault) → RunsBytes s after script old new result
    → BytesReadStably s after script old new result
bytes_stable law s after script old new (Ok summary) w =
    (w, law s w.state (statements script) w.writes.0 w.writes.1)
bytes_stable law s after script old new (Err Write) w = (w, law s w.state w.done w.replies w.ran)
bytes_stable law s after script old new (Err Memory) w = w.1
bytes_stable law s after script old new (Err Read) w = w.1

-- the pieces and replies of a run that wrote an output are a run of the reference model
record IsRun (s : State) (pieces : List Piece) (replies : List Reply) : Type 0 where
  new : State
  ran : Run s pieces replies new

tells_run : (s : State) (after : Standing) (script old new : List ℕ) (result : Result Summary Fault)
    (pieces : List Piece) (replies : List Reply) → Tells s after script old new result pieces replies
    → IsRun s pieces replies
tells_run s after script old new (Ok summary) pieces replies (w, p, r) = record {
  new = w.state;
  ran = subst (λ ps. Run s ps replies w.state) (sym p)
      (subst (λ rs. Run s (statements script) rs w.state) (sym r) w.writes.1);
}
tells_run s after script old new (Err Write) pieces replies (w, p, r) = record {
  new = w.state;
  ran = subst (λ ps. Run s ps replies w.state) (sym p) (subst (λ rs. Run s w.done rs w.state) (sym r) w.ran);
}
tells_run s after script old new (Err Memory) pieces replies t = absurd t
tells_run s after script old new (Err Read) pieces replies t = absurd t

pub scripts_alike : RunsReadAlike → ScriptsReadAlike
scripts_alike law s h h' script old new script' old' new' result result' ones others replies replies' t t' =
    let k = tells_run s (StandsFor h) script old new result ones replies t in
    let k' = tells_run s (StandsFor h') script' old' new' result' others replies' t' in
    law s k.new k'.new ones others replies replies' k.ran k'.ran

-- ---- single statements

pub steps_stable : RunsReadStably → StepsReadStably
steps_stable law old new texts replies e s st =
    let k = steps_run texts replies old new e s st in
    record {
      state = k.state;
      stands = k.stands;
      ran = k.ran;
      stable = law s k.state (map finished texts) replies k.ran;
    }

pub steps_alike : RunsReadAlike → StepsReadAlike
steps_alike law old new old' new' texts texts' replies replies' e e' s st st' =
    let k = steps_run texts replies old new e s st in
    let k' = steps_run texts' replies' old' new' e' s st' in
    law s k.state k'.state (map finished texts) (map finished texts') replies replies' k.ran k'.ran
