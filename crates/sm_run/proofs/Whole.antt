-- From how a search or a check of a flat model ends to how a run does.
use Rattle.std.proofs.Common.{◌≡◌, ap, refl, sym, subst, inl, inr, ℕ, ◌≤◌, List, [], Option, Bool, true, false, Some, None}
use Rattle.sm_base.specs.Causes.{Rose}
use Rattle.sm_flat.specs.Models.{FlatModel}
use Rattle.sm_loading.specs.Loading.{Held}
use Rattle.sm_reports.specs.declared.error.ErrorLine.{ErrorLine}
use Rattle.sm_reports.specs.declared.error.ErrorLine.TheVariants as error
use Rattle.sm_reports.specs.Errors.{error_text}
use Rattle.sm_search.specs.declared.refusal.WorkRefusal.{WorkRefusal}
use Rattle.sm_search.specs.Went.{begin, Stopped}
use Rattle.sm_arguments.specs.Request.{Asked, solve, check, asked_by}
use Rattle.sm_run.specs.declared.ending.Ending.{Ending}
use Rattle.sm_run.specs.declared.ending.Ending.TheVariants as ending
use Rattle.sm_run.specs.Devices.{Given, Device, Effects, Puts}
use Rattle.sm_run.specs.Causes.{IsFlatOfFiles, IsEarly, IsRefusal}
use Rattle.sm_run.specs.Endings.{early_text, DueOfSolve, StopsOfSolve, DueOfCheck, DueOfNothing, Due, Stops, EndsBy, Ends}
use Rattle.sm_run.specs.Telling.{IsTold, TellsError}
use Rattle.sm_run.specs.Searching.{DueOfLog, EndsLog, DueOfBrief, BreaksAside, EndsBrief, DueOfLogCheck, EndsCheck}
use Rattle.sm_run.proofs.Told.{rose_later, ends_told, ends_refused, ends_weaker}
use Rattle.sm_run.proofs.Loads.{of_model, few_refused, memory_refused}

module _ (held : Held) (model : List ℕ) (files : List (List ℕ)) (e : Effects) where
  -- ---- searches

  module _ (m : FlatModel) (h : IsFlatOfFiles held model files m) where
    log_due : Puts e.aside [] → (own : Ending) (text : List ℕ) → DueOfLog h.whole h.tables m own text → DueOfSolve held model files false e own text
    log_due none (ending.Solved o) text (v, decided, is, proved) = of_model held model files m _ h (v, decided, is, (proved, none))
    log_due none (ending.Refused line) text (is, memory) = (is, inl (subst (λ (l : ErrorLine). IsRefusal held model files e.read_before e.read_now l) (sym memory) (memory_refused held model files e.read_before e.read_now), none))
    log_due none ending.Accepted text k = absurd k
    log_due none ending.LogRefused text k = absurd k
    log_due none ending.Early text k = absurd k
    log_due none (ending.Stopped r) text k = absurd k
    log_due none ending.Untold text k = absurd k

    pub log_ends : (end : Ending) → Puts e.aside [] → EndsLog h.whole h.tables m e.out end → EndsBy (DueOfSolve held model files false e) (StopsOfSolve held model files false e) e.out end
    log_ends end none ends =
        ends_weaker (DueOfLog h.whole h.tables m) (DueOfSolve held model files false e) (Stopped m (begin m) e.out.before e.out.now e.out.faults_before e.out.faults_now) (StopsOfSolve held model files false e) e.out end
        (log_due none) (λ r stopped. (of_model held model files m _ h stopped, none)) ends

    brief_due : (own : Ending) (text : List ℕ) → DueOfBrief h.whole h.tables m e.aside own text → DueOfSolve held model files true e own text
    brief_due (ending.Solved o) text (v, decided, is, solution) = of_model held model files m _ h (v, decided, is, solution)
    brief_due (ending.Refused line) text (is, left) = (is, inr (refl, of_model held model files m _ h left))
    brief_due ending.Accepted text k = absurd k
    brief_due ending.LogRefused text k = absurd k
    brief_due ending.Early text k = absurd k
    brief_due (ending.Stopped r) text k = absurd k
    brief_due ending.Untold text k = absurd k

    pub brief_ends : (end : Ending) → EndsBrief h.whole h.tables m e.out e.aside end → EndsBy (DueOfSolve held model files true e) (StopsOfSolve held model files true e) e.out end
    brief_ends end ends =
        ends_weaker (DueOfBrief h.whole h.tables m e.aside) (DueOfSolve held model files true e) (BreaksAside m e.out e.aside) (StopsOfSolve held model files true e) e.out end
        brief_due (λ r k. (k.0, of_model held model files m _ h k.1, k.2)) ends

    pub early_solve : (brief : Bool) (end : Ending) → IsEarly m → Puts e.aside [] → IsTold e.out early_text ending.Early end → EndsBy (DueOfSolve held model files brief e) (StopsOfSolve held model files brief e) e.out end
    early_solve brief end early none told =
        ends_told (DueOfSolve held model files brief e) (StopsOfSolve held model files brief e) e.out ending.Early end early_text tt (refl, of_model held model files m _ h early, none) told

  pub refused_solve : (brief : Bool) (line : ErrorLine) (end : Ending) → IsRefusal held model files e.read_before e.read_now line → Puts e.aside [] → TellsError line e.out end
      → EndsBy (DueOfSolve held model files brief e) (StopsOfSolve held model files brief e) e.out end
  refused_solve brief line end cause none told =
      ends_refused (DueOfSolve held model files brief e) (StopsOfSolve held model files brief e) e.out line end (refl, inl (cause, none)) (refl, inl (memory_refused held model files e.read_before e.read_now, none)) told

  -- ---- checks

  module _ (log : List ℕ) where
    abbrev no_stop : WorkRefusal → Type 0
    no_stop r = ⊥

    pub refused_check : (line : ErrorLine) (end : Ending) → IsRefusal held model files e.read_before e.read_now line → Puts e.aside [] → TellsError line e.out end
        → EndsBy (DueOfCheck held model files log e) no_stop e.out end
    refused_check line end cause none told =
        ends_refused (DueOfCheck held model files log e) no_stop e.out line end (refl, inl cause, none) (refl, inl (memory_refused held model files e.read_before e.read_now), none) told

    module _ (m : FlatModel) (h : IsFlatOfFiles held model files m) where
      pub early_check : (end : Ending) → IsEarly m → Puts e.aside [] → IsTold e.out early_text ending.Early end → EndsBy (DueOfCheck held model files log e) no_stop e.out end
      early_check end early none told =
          ends_told (DueOfCheck held model files log e) no_stop e.out ending.Early end early_text tt (refl, of_model held model files m _ h early, none) told

      check_due : (before : ℕ) → e.read_before ≤ before → Puts e.aside [] → (own : Ending) (text : List ℕ) → DueOfLogCheck h.whole h.tables m (held log) before e.read_now own text → DueOfCheck held model files log e own text
      check_due before le none ending.Accepted text k = (of_model held model files m _ h k, none)
      check_due before le none ending.LogRefused text k = (of_model held model files m _ h k, none)
      check_due before le none (ending.Refused line) text (is, inl (read, rose)) =
          (is, inl (subst (λ (l : ErrorLine). IsRefusal held model files e.read_before e.read_now l) (sym read) (few_refused held model files e.read_before e.read_now error.Read h.loaded.few (rose_later e.read_before before e.read_now le rose))), none)
      check_due before le none (ending.Refused line) text (is, inr (inl memory)) =
          (is, inl (subst (λ (l : ErrorLine). IsRefusal held model files e.read_before e.read_now l) (sym memory) (memory_refused held model files e.read_before e.read_now)), none)
      check_due before le none (ending.Refused line) text (is, inr (inr cause)) = (is, inr (of_model held model files m _ h cause), none)
      check_due before le none (ending.Solved o) text k = absurd k
      check_due before le none ending.Early text k = absurd k
      check_due before le none (ending.Stopped r) text k = absurd k
      check_due before le none ending.Untold text k = absurd k

      pub check_ends : (before : ℕ) (end : Ending) → e.read_before ≤ before → Puts e.aside [] → EndsCheck h.whole h.tables m (held log) before e.read_now e.out end → EndsBy (DueOfCheck held model files log e) no_stop e.out end
      check_ends before end le none ends =
          ends_weaker (DueOfLogCheck h.whole h.tables m (held log) before e.read_now) (DueOfCheck held model files log e) no_stop no_stop e.out end (check_due before le none) (λ r k. k) ends

-- ---- the words

module _ (given : Given) (e : Effects) where
  pub ends_solve : (model : List ℕ) (files : List (List ℕ)) (brief : Bool) (end : Ending) → asked_by given.words ≡ Some (solve model files brief)
      → EndsBy (DueOfSolve given.held model files brief e) (StopsOfSolve given.held model files brief e) e.out end → Ends given e end
  ends_solve model files brief end asked ends =
      ends_weaker (DueOfSolve given.held model files brief e) (Due given e) (StopsOfSolve given.held model files brief e) (Stops given e) e.out end (λ own text due. rw asked due) (λ r stops. rw asked stops) ends

  pub ends_check : (model : List ℕ) (files : List (List ℕ)) (log : List ℕ) (end : Ending) → asked_by given.words ≡ Some (check model files log)
      → EndsBy (DueOfCheck given.held model files log e) (λ r. ⊥) e.out end → Ends given e end
  ends_check model files log end asked ends =
      ends_weaker (DueOfCheck given.held model files log e) (Due given e) (λ r. ⊥) (Stops given e) e.out end (λ own text due. rw asked due) (λ r stops. absurd stops) ends

  pub ends_usage : (end : Ending) → asked_by given.words ≡ None → Puts e.aside [] → TellsError error.Usage e.out end → Ends given e end
  ends_usage end none aside told =
      ends_refused (Due given e) (Stops given e) e.out error.Usage end (rw none (refl, aside)) (rw none (refl, aside)) told

  memory_due : (asked : Option Asked) → asked_by given.words ≡ asked → Puts e.aside [] → Due given e (ending.Refused error.Memory) (error_text error.Memory)
  memory_due None is aside = rw is (refl, aside)
  memory_due (Some (solve model files brief)) is aside = rw is (refl, inl (memory_refused given.held model files e.read_before e.read_now, aside))
  memory_due (Some (check model files log)) is aside = rw is (refl, inl (memory_refused given.held model files e.read_before e.read_now), aside)

  pub ends_memory : (end : Ending) → Puts e.aside [] → TellsError error.Memory e.out end → Ends given e end
  ends_memory end aside told =
      let due = memory_due (asked_by given.words) refl aside in
      ends_refused (Due given e) (Stops given e) e.out error.Memory end due due told
