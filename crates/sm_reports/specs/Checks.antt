-- What a check says of a log.
use Rattle.std.specs.Prelude.{ℕ, List, codes, ◌++◌, pos}
use Rattle.sm_base.specs.Whole.{whole_text}
use Rattle.sm_step.specs.declared.verdict.Verdict.{Verdict}
use Rattle.sm_step.specs.Text.{verdict_text}
use Rattle.sm_rules.specs.declared.cause.Cause.{Cause}
use Rattle.sm_rules.specs.declared.cause.Cause.TheVariants as cause

-- what is told of a log that is accepted
abbrev pub accepted_line : Verdict → List ℕ
accepted_line v = codes "accepted " ++ verdict_text v ++ codes "\n"

abbrev pub cause_word : Cause → List ℕ
cause_word cause.Grammar = codes "grammar"
cause_word cause.Order = codes "order"
cause_word cause.Law = codes "law"
cause_word cause.Verdict = codes "verdict"
cause_word cause.End = codes "end"

-- what is told of a log that is refused
abbrev pub refused_line : ℕ → Cause → List ℕ
refused_line line c = codes "refused " ++ whole_text (pos line) ++ codes " " ++ cause_word c ++ codes "\n"
