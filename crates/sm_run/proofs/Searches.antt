-- What a search puts, and what is told of it.
use Rattle.std.proofs.Common.{◌≡◌, ◌∙◌, ap, sym, refl, subst, inl, inr, ℕ, ◌≤◌, ◌⊎◌, List, [], Option, Some, None, Bool, true, false}
use Rattle.std.specs.Prelude.{◌||◌, is_some}
use Rattle.std.specs.List.{list_any}
use Rattle.std.specs.Io.KnownBytes.{Appends}
use Rattle.std.proofs.lemmas.List.Folds.{list_any_at}
use Rattle.sm_kinds.specs.declared.var.Var.{Var}
use Rattle.sm_kinds.specs.Vars.{is_real_kind}
use Rattle.sm_flat.specs.declared.form.Constraint.{Constraint}
use Rattle.sm_flat.specs.Models.{FlatModel}
use Rattle.sm_data.specs.Documents.{Entry}
use Rattle.sm_syntax.specs.Trees.{Tree}
use Rattle.sm_rules.proofs.Kept.{of_start}
use Rattle.sm_check.specs.Checks.{Proves}
use Rattle.sm_check.proofs.Ends.{cut_lines}
use Rattle.sm_check.proofs.Truths.{log_is_true_on}
use Rattle.sm_search.specs.declared.refusal.WorkRefusal.{WorkRefusal}
use Rattle.sm_search.specs.declared.refusal.WorkRefusal.TheVariants as work
use Rattle.sm_search.specs.declared.running.Halt.{Halt}
use Rattle.sm_search.specs.declared.solved.Solved.{Solved}
use Rattle.sm_search.specs.Went.{begin, Stopped, texts}
use Rattle.sm_search.specs.Turns.{HasSolved}
use Rattle.sm_search.specs.Refusals.{HasReal}
use Rattle.sm_answers.proofs.Texts.{true_of_text}
use Rattle.sm_reports.specs.declared.error.ErrorLine.{ErrorLine}
use Rattle.sm_reports.specs.declared.error.ErrorLine.TheVariants as error
use Rattle.sm_reports.specs.Errors.{error_text}
use Rattle.sm_reports.specs.Briefs.{brief_text}
use Rattle.sm_run.specs.declared.ending.Ending.{Ending}
use Rattle.sm_run.specs.declared.ending.Ending.TheVariants as ending
use Rattle.sm_run.specs.Devices.{Device, Puts, Fails, Keeps}
use Rattle.sm_run.specs.Causes.{IsModelOf, is_early}
use Rattle.sm_run.specs.Endings.{outcome_of, ProvesText, IsSolution, IsWorkLine, StopsAside, EndsAside, EndsBy, log_limit}
use Rattle.sm_run.specs.Telling.{device, IsTold}
use Rattle.sm_run.specs.Searching.{DueOfLog, EndsLog, DueOfBrief, BreaksAside, EndsBrief, HaltsLog, HaltsAside, TellsSolution}
use Rattle.sm_run.proofs.Told.{appends_next, appends_none, fails_next, ends_told, ends_refused}

-- the lines that a search put are a log that proves its verdict
abbrev log_of : (m : FlatModel) (before now : Option (List ℕ)) (s : Solved) → HasSolved m before now s → List ℕ
log_of m before now s h = texts h.went.put

proves_verdict : (m : FlatModel) (before now : Option (List ℕ)) (s : Solved) (h : HasSolved m before now s) → Proves m (log_of m before now s h) s.verdict
proves_verdict m before now s h =
    let of = of_start m h.flat in
    let went = h.went in
    record {
      ends = record {
        lines = went.put;
        state = h.place.state;
        replays = record { each = went.each; text = cut_lines went.put went.each; runs = went.runs };
        verdict = h.stands;
      };
      holds = rw h.best h.holds;
      named = λ t within final. log_is_true_on m t went.put h.place.state s.verdict of within went.runs h.stands final;
    }

-- the log proves the verdict of the text
proves_text : (whole : Tree) (tables : List Entry) (m : FlatModel) (before now : Option (List ℕ)) (s : Solved) (h : HasSolved m before now s) → IsModelOf whole tables m
    → ProvesText whole tables m (log_of m before now s h) s.verdict
proves_text whole tables m before now s h is =
    let proved = proves_verdict m before now s h in
    record { proves = proved; holds = true_of_text whole tables m is.flat proved.ends.state.best s.verdict proved.holds }

pub log_put : (whole : Tree) (tables : List Entry) (m : FlatModel) (d : Device) (s : Solved) → HasSolved m d.before d.now s → IsModelOf whole tables m → EndsLog whole tables m d (ending.Solved (outcome_of s.verdict))
log_put whole tables m d s h is = (log_of m d.before d.now s h, (s.verdict, h.decided, refl, proves_text whole tables m d.before d.now s h is), h.went.told)

-- a search halted whose log goes to the output
pub log_halted : (whole : Tree) (tables : List Entry) (m : FlatModel) (a b c : ℕ) (x y z : Option (List ℕ)) (h : Halt) (end : Ending) → a ≤ b
    → Stopped m (begin m) x y a b h.refusal → (h.begun ≡ false → h.refusal ≡ work.OutOfMemory → Appends x y []) → HaltsLog h (device b c y z) end
    → EndsLog whole tables m (device a c x z) end
log_halted whole tables m a b c x y z h ending.Untold le stopped unput (unbegun, memory, fails) =
    (ending.Refused error.Memory, error_text error.Memory, (refl, refl), fails_next x y z a b c (error_text error.Memory) le (unput unbegun memory) fails)
log_halted whole tables m a b c x y z h (ending.Stopped r) le stopped unput (is, keeps) =
    let P : WorkRefusal → Option (List ℕ) → ℕ → Type 0 = λ q w n. Stopped m (begin m) x w a n q in
    subst (λ (q : WorkRefusal). P q z c) (sym is) (subst (λ (n : ℕ). P h.refusal z n) (sym keeps.still) (subst (λ (w : Option (List ℕ)). P h.refusal w b) (sym keeps.same) stopped))
log_halted whole tables m a b c x y z h (ending.Refused line) le stopped unput (unbegun, memory, is, put) =
    (error_text error.Memory, (ap error_text (sym is), is), appends_next x y z (error_text error.Memory) (unput unbegun memory) put)
log_halted whole tables m a b c x y z h (ending.Solved o) le stopped unput k = absurd k
log_halted whole tables m a b c x y z h ending.Accepted le stopped unput k = absurd k
log_halted whole tables m a b c x y z h ending.LogRefused le stopped unput k = absurd k
log_halted whole tables m a b c x y z h ending.Early le stopped unput k = absurd k

-- a search put its log aside, and the best solution is told
pub brief_put : (whole : Tree) (tables : List Entry) (m : FlatModel) (out aside : Device) (s : Solved) (end : Ending) → HasSolved m aside.before aside.now s → IsModelOf whole tables m → TellsSolution m s out end
    → EndsBrief whole tables m out aside end
unfolding proves_text proves_verdict
brief_put whole tables m out aside s end h is (inl told) =
    let text = brief_text m.vars s.best s.verdict in
    let same : text ≡ brief_text m.vars h.place.state.best s.verdict = ap (λ b. brief_text m.vars b s.verdict) (sym h.best) in
    ends_told (DueOfBrief whole tables m aside) (BreaksAside m out aside) out (ending.Solved (outcome_of s.verdict)) end text tt
    (s.verdict, h.decided, refl, (log_of m aside.before aside.now s h, proves_text whole tables m aside.before aside.now s h is, h.went.told, same)) told
brief_put whole tables m out aside s end h is (inr told) =
    let left : DueOfBrief whole tables m aside (ending.Refused error.Memory) (error_text error.Memory) =
    (refl, inr (record { verdict = s.verdict; log = log_of m aside.before aside.now s h; proved = proves_text whole tables m aside.before aside.now s h is; put = h.went.told; told = refl })) in
    ends_refused (DueOfBrief whole tables m aside) (BreaksAside m out aside) out error.Memory end left left told

-- a search halted whose log goes aside
pub brief_halted : (whole : Tree) (tables : List Entry) (m : FlatModel) (out aside : Device) (r : WorkRefusal) (end : Ending)
    → Stopped m (begin m) aside.before aside.now aside.faults_before aside.faults_now r → HaltsAside r out end → EndsBrief whole tables m out aside end
brief_halted whole tables m out aside r ending.Untold stopped (line, told, fails) =
    (ending.Refused line, error_text line, (refl, inl (record { refusal = r; stopped = stopped; told = told })), fails)
brief_halted whole tables m out aside r (ending.Stopped q) stopped (is, same, keeps) = (
  same ∙ is,
  subst (λ (p : WorkRefusal). Stopped m (begin m) aside.before aside.now aside.faults_before aside.faults_now p) (sym same) stopped,
  subst (λ (w : Option (List ℕ)). Appends out.before w []) (sym keeps.same) (appends_none out.before),
)
brief_halted whole tables m out aside r (ending.Refused line) stopped (told, put) =
    (error_text line, (refl, inl (record { refusal = r; stopped = stopped; told = told })), put)
brief_halted whole tables m out aside r (ending.Solved o) stopped k = absurd k
brief_halted whole tables m out aside r ending.Accepted stopped k = absurd k
brief_halted whole tables m out aside r ending.LogRefused stopped k = absurd k
brief_halted whole tables m out aside r ending.Early stopped k = absurd k

any_real : (vars : List Var) → HasReal vars → list_any (λ (v : Var). is_real_kind v.kind) vars ≡ true
any_real vars (k, v, lt, same, real) =
    list_any_at (λ (u : Var). is_real_kind u.kind) vars k v lt (rw same (ap is_real_kind real))

-- no search is asked of a model with a real variable
pub discrete : (m : FlatModel) → is_early m ≡ false → HasReal m.vars → ⊥
discrete m none real =
    let some : is_early m ≡ true = ap (λ (b : Bool). b || list_any (λ (c : Constraint). is_some c.tags.sub) m.constraints) (any_real m.vars real) in
    let wrong : true ≡ false = sym some ∙ none in
    cc
