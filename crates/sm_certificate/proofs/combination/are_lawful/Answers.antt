use Rattle.std.proofs.Common.{◌≡◌, ◌<◌, arith, refl, length, map, sym}
use Rattle.std.proofs.lemmas.List.{length-map}
use Rattle.sm_frac.specs.Frac.{value_of}
use Rattle.sm_certificate.proofs.NumberLemmas.{number_read}
use Rattle.sm_certificate.proofs.CombinationLemmas.{lawful_long, lawful_next, lawful_stop, lawful_end}
use Rattle.sm_certificate.proofs.combination.are_lawful.Goals as goal

pub returns-then-rows-multipliers : goal.returns-then-rows-multipliers
returns-then-rows-multipliers c = (λ t. absurd (cc), λ h. absurd (let e = lawful_long c.args.rows.now (map value_of c.args.multipliers.now) h in let n = length-map c.args.multipliers.now value_of in let ne = c.if-rows-multipliers.true in omega arith))

pub returns-then-not-is_lawful : goal.returns-then-not-is_lawful
returns-then-not-is_lawful c =
    let ms = c.args.multipliers.now in
    let l : c.loop-i.i < length ms = (let n = c.loop-i-test.true in let e = c.if-rows-multipliers.false in omega arith) in
    let m : c.loop-i.i < length (map value_of ms) = (let n = length-map ms value_of in omega arith) in
    (λ t. absurd (cc), λ h. absurd (lawful_stop c.args.rows.now (map value_of ms) c.loop-i.i c.index-rows-i.result (value_of c.index-multipliers-i.result) c.loop-i-test.true m c.index-rows-i.is (sym (number_read ms c.loop-i.i c.index-multipliers-i.result l c.index-multipliers-i.is)) (λ s. absurd (let t = c.if-not-is_lawful.ensures.1 s in cc)) c.loop-i.invariant h))

pub loop-i-preserved : goal.loop-i-preserved
loop-i-preserved c =
    let ms = c.args.multipliers.now in
    let l : c.loop-i.i < length ms = (let n = c.loop-i-test.true in let e = c.if-rows-multipliers.false in omega arith) in
    let m : c.loop-i.i < length (map value_of ms) = (let n = length-map ms value_of in omega arith) in
    lawful_next c.args.rows.now (map value_of ms) c.loop-i.i c.index-rows-i.result (value_of c.index-multipliers-i.result) c.loop-i-test.true m c.index-rows-i.is (sym (number_read ms c.loop-i.i c.index-multipliers-i.result l c.index-multipliers-i.is)) (c.if-not-is_lawful.ensures.0 refl) c.loop-i.invariant

pub returns : goal.returns
returns c =
    let ms = c.args.multipliers.now in
    let long : length c.args.rows.now ≡ length (map value_of ms) = (let n = length-map ms value_of in let e = c.if-rows-multipliers.false in omega arith) in
    (λ t. lawful_end c.args.rows.now (map value_of ms) c.loop-i.i c.loop-i-test.false long c.loop-i.invariant, λ h. refl)
