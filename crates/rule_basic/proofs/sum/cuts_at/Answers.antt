use Rattle.std.proofs.Common.{◌≡◌, pos, slice_index_or, refl, true, false}
use Rattle.sm_rows.specs.Halves.{IsTooLittle}
use Rattle.rule_basic.proofs.Cutting.{cuts_by_end, cuts_none}
use Rattle.rule_basic.proofs.sum.cuts_at.Goals as goal

pub returns-in-Some : goal.returns-in-Some
returns-in-Some c =
    cuts_by_end c.args.store.now c.args.half.now (slice_index_or c.args.half.now.terms c.args.place (0, pos 0)) c.args.literal.now c.complement.result c.complement.ensures
    c.requires.ordered c.requires.whole c.in-Some.ends.0 c.in-Some.ends.1
    (c.in-Some.ensures.variant.0 refl) c.in-Some.ensures.value.0 c.in-Some.ensures.value.1
    c.ends_too_little.result c.ends_too_little.ensures.up c.ends_too_little.ensures.down

pub returns-in-None : goal.returns-in-None
returns-in-None c =
    cuts_none (IsTooLittle c.args.store.now c.args.half.now (slice_index_or c.args.half.now.terms c.args.place (0, pos 0))) c.args.store.now c.args.literal.now c.complement.result c.complement.ensures
    (λ some. let wrong : false ≡ true = c.in-None.ensures.variant.1 some in absurd (cc))
