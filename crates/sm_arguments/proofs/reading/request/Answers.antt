use Rattle.std.proofs.Common.{rules, refl, ◌≡◌, subst, ap, ◌∙◌, map, List, [], ◌∷◌, Err, String, Global}
use Rattle.std.specs.Prelude.{string_bytes}
use Rattle.std.proofs.lemmas.Str.{IsUtf8-string_bytes}
use Rattle.clap.specs.Words.{fault_of}
use Rattle.sm_arguments.specs.Request.{Word, Answers, asked_by}
use Rattle.sm_arguments.specs.App.{simpl, asked_by_rows}
use Rattle.sm_arguments.specs.declared.refusal.RequestRefusal.{RequestRefusal}
use Rattle.sm_arguments.specs.declared.refusal.RequestRefusal.TheVariants as refusal
use Rattle.sm_arguments.proofs.Agreement.{AreTexts, taken, refused}
use Rattle.sm_arguments.proofs.reading.request.Goals as goal

all_texts : (words : List (String Global)) → AreTexts (map string_bytes words)
all_texts [] = tt
all_texts (word ∷ words) = (IsUtf8-string_bytes word, all_texts words)

-- a refusal of the command, or want of memory
answers_refusal : (r : RequestRefusal) (words : List Word) → AreTexts words → (r ≡ refusal.Usage → fault_of simpl words ≡ [] → ⊥) → Answers (Err r) (asked_by words)
answers_refusal refusal.Usage words texts h = refused words texts (h refl)
answers_refusal refusal.OutOfMemory words texts h = tt

pub returns-in-Ok : goal.returns-in-Ok
returns-in-Ok c =
    subst (Answers c.requested.result) (ap asked_by_rows c.in-Ok.ensures.found ∙ taken _ (all_texts c.args.words.now) c.in-Ok.ensures.taken) c.requested.ensures

pub returns-in-Err : goal.returns-in-Err
returns-in-Err c = answers_refusal c.in-Err.refusal _ (all_texts c.args.words.now) (λ e. c.in-Err.ensures.refused (search rules))
