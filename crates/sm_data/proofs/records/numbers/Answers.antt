use Rattle.std.proofs.Common.{rules, w64, ◌≡◌, ◌∙◌, ap, sym, subst, ℕ, Some, None, ◌++◌, ◌∷◌, [], drop, get_or}
use Rattle.std.specs.Prelude.{FitsSigned}
use Rattle.std.proofs.lemmas.Int.{to_z-of_z}
use Rattle.std.proofs.lemmas.Result.{err_from_is_err_and}
use Rattle.csv.specs.Records.{Row, field_at, fields_of}
use Rattle.sm_data.specs.Numbers.{each, number_of, with_front}
use Rattle.sm_data.proofs.Each.{goes, fails, ends}
use Rattle.sm_data.proofs.Readings.{reading_at, reading_past, at_place}
use Rattle.sm_data.proofs.records.numbers.Goals as goal

pub returns-in_err-number : goal.returns-in_err-number
returns-in_err-number c = λ rs h.
    let s = rw c.in-Some.is at c.next.ensures.steps in
    let at = c.loop-field.field-iterator.at in
    let found : Some c.in-Some.field.now ≡ field_at (fields_of c.args.row.now) at = s.1 ∙ ap (λ (r : Row). field_at (fields_of r) at) c.loop-field.invariant.same in
    let here = reading_at (fields_of c.args.row.now) rs at c.in-Some.field.now h found in
    let x = get_or rs at None in
    let p = err_from_is_err_and c.from_residual.result c.from_residual.ensures.1 in
    rw (p.1, p.2) (fails number_of rs at x c.loop-field.numbers c.in_err-number.field-0.0 here.within (at_place rs at None x here.within) (c.loop-field.invariant.whole rs h) (c.in_err-number.ensures x here.reads))

pub loop-field-preserved : goal.loop-field-preserved
loop-field-preserved c =
    let s = rw c.in-Some.is at c.next.ensures.steps in
    let at = c.loop-field.field-iterator.at in
    let same = c.loop-field.invariant.same in
    let found : Some c.in-Some.field.now ≡ field_at (fields_of c.args.row.now) at = s.1 ∙ ap (λ (r : Row). field_at (fields_of r) at) same in
    let pushed : c.push.new.self ≡ c.loop-field.numbers ++ c.in_ok-number.field-0 ∷ [] =
    let fits : FitsSigned w64 c.in_ok-number.field-0 = search rules in simp to_z-of_z at c.in_ok-push.ensures.ok in
    record {
      same = ap (λ r. r.now) s.0 ∙ same;
      whole = λ rs h.
          let here = reading_at (fields_of c.args.row.now) rs at c.in-Some.field.now h found in
          let x = get_or rs at None in
          subst (λ (k : ℕ). with_front c.push.new.self (each number_of (drop k rs)) ≡ each number_of rs) (sym s.2)
          (goes number_of rs at x c.loop-field.numbers c.push.new.self c.in_ok-number.field-0 here.within (at_place rs at None x here.within) (c.loop-field.invariant.whole rs h) (c.in_ok-number.ensures x here.reads) pushed);
    }

pub returns : goal.returns
returns c = λ rs h.
    let s = rw c.in-None.is at c.next.ensures.steps in
    let at = c.loop-field.field-iterator.at in
    let found : None ≡ field_at (fields_of c.args.row.now) at = s.1 ∙ ap (λ (r : Row). field_at (fields_of r) at) c.loop-field.invariant.same in
    ends number_of rs at c.loop-field.numbers (reading_past (fields_of c.args.row.now) rs at h found) (c.loop-field.invariant.whole rs h)
