-- What a check comes to, and what is told of it.
use Rattle.std.proofs.Common.{◌≡◌, refl, sym, subst, inl, inr, ℕ, ◌≤◌, List, [], Option}
use Rattle.sm_flat.specs.Models.{FlatModel}
use Rattle.sm_data.specs.Documents.{Entry}
use Rattle.sm_syntax.specs.Trees.{Tree}
use Rattle.sm_step.specs.declared.verdict.Verdict.{Verdict}
use Rattle.sm_check.specs.declared.refusal.CheckRefusal.{CheckRefusal}
use Rattle.sm_check.specs.declared.refusal.CheckRefusal.TheVariants as check
use Rattle.sm_check.specs.Checks.{Proves, OfFile, IsCheckCause}
use Rattle.sm_answers.proofs.Texts.{true_of_text}
use Rattle.sm_reports.specs.declared.error.ErrorLine.TheVariants as error
use Rattle.sm_reports.specs.Errors.{error_text}
use Rattle.sm_reports.specs.Checks.{accepted_line, refused_line}
use Rattle.sm_search.specs.declared.refusal.WorkRefusal.{WorkRefusal}
use Rattle.sm_run.specs.declared.ending.Ending.{Ending}
use Rattle.sm_run.specs.declared.ending.Ending.TheVariants as ending
use Rattle.sm_run.specs.Devices.{Device}
use Rattle.sm_run.specs.Causes.{IsModelOf}
use Rattle.sm_run.specs.Endings.{ProvesText, log_limit}
use Rattle.sm_run.specs.Telling.{TellsVerdict, TellsRefusal, TellsError}
use Rattle.sm_run.specs.Searching.{DueOfLogCheck, EndsCheck}
use Rattle.sm_run.proofs.Told.{ends_told, ends_refused}

module _ (whole : Tree) (tables : List Entry) (m : FlatModel) (held : Option (List ℕ)) (before now : ℕ) (out : Device) (end : Ending) where
  abbrev stops : WorkRefusal → Type 0
  stops r = ⊥

  memory_told : TellsError error.Memory out end → EndsCheck whole tables m held before now out end
  memory_told told = ends_refused (DueOfLogCheck whole tables m held before now) stops out error.Memory end (refl, inr (inl refl)) (refl, inr (inl refl)) told

  pub check_accepted : (v : Verdict) → IsModelOf whole tables m → OfFile held (λ log. Proves m log v) → TellsVerdict v out end → EndsCheck whole tables m held before now out end
  check_accepted v is proved (inl told) =
      let proves : Proves m proved.log v = proved.holds in
      let here : OfFile held (λ bytes. ProvesText whole tables m bytes v) = record {
        log = proved.log;
        told = proved.told;
        holds = record { proves = proves; holds = true_of_text whole tables m is.flat proves.ends.state.best v proves.holds };
      } in
      ends_told (DueOfLogCheck whole tables m held before now) stops out ending.Accepted end (accepted_line v) tt (v, here, refl) told
  check_accepted v is proved (inr told) = memory_told told

  pub check_refused : (r : CheckRefusal) → IsCheckCause m held before now r → TellsRefusal r out end → EndsCheck whole tables m held before now out end
  check_refused (check.Refused line cause) h (inl told) =
      ends_told (DueOfLogCheck whole tables m held before now) stops out ending.LogRefused end (refused_line line cause) tt (line, cause, h, refl) told
  check_refused (check.Refused line cause) h (inr told) = memory_told told
  check_refused check.ReadFault h told = ends_refused (DueOfLogCheck whole tables m held before now) stops out error.Read end (refl, inl (refl, h)) (refl, inr (inl refl)) told
  check_refused check.LogTooLong h told = ends_refused (DueOfLogCheck whole tables m held before now) stops out log_limit end (refl, inr (inr (refl, h))) (refl, inr (inl refl)) told
  check_refused check.OutOfMemory h told = memory_told told
