use Rattle.std.proofs.Common.{◌≡◌, ◌<◌, ◌^◌, ◌*◌, ◌+◌, ◌-◌, drop, fold}
use Rattle.sm_syntax.specs.Tokens.{number_of}
use Rattle.sm_syntax.proofs.token.number_of.Given as goal

abbrev pub invariant-loop-digit : goal.invariant-loop-digit
invariant-loop-digit l = record {
  so_far : fold (λ n d. 10 * n + (d - 48)) l.value (drop l.digit-index l.digits) ≡ number_of l.digits;
  small : l.value < 10 ^ l.digit-index;
}
