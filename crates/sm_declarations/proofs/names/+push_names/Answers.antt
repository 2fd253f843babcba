use Rattle.std.proofs.Common.{◌∙◌, ap, sym, ◌-◌, ◌++◌, ◌∷◌, List, ℤ, pos, map, length, take, drop, slice_index_or}
use Rattle.std.specs.List.{flat_map}
use Rattle.sm_meaning.specs.Declarations.{member_name, index_tuples}
use Rattle.sm_drafts.proofs.Parts.{split_at}
use Rattle.sm_declarations.proofs.Eaches.{flat_more, flat_ends, first_and_rest}
use Rattle.sm_declarations.proofs.Members.{behind, behind_all}
use Rattle.sm_declarations.proofs.names.+push_names.Goals as goal

pub loop-number-preserved : goal.loop-number-preserved
loop-number-preserved t c =
    let rest = take (length c.args.ranges.now - 1) (drop 1 c.args.ranges.now) in
    let numbers = c.as_slice-number-items.result.now in
    let z = slice_index_or numbers c.loop-number.number-index (pos 0) in
    flat_more (behind c.args.name.now c.args.indices.now rest) numbers c.loop-number.number-index z c.args.names.now.items c.loop-number.names.items c.push_names.new.names.items
    (split_at numbers c.loop-number.number-index (pos 0) c.loop-number-test.true) c.loop-number.invariant
    (c.in_ok-push_names-in-len1-up.ensures ∙ ap (λ (ys : List ℤ). c.loop-number.names.items ++ map (λ zs. member_name c.args.name.now (ys ++ zs)) (index_tuples rest)) (c.as_slice.ensures.value ∙ c.in_ok-longer-in-len1-up.ensures))

pub returns-after-loop-number : goal.returns-after-loop-number
returns-after-loop-number t c =
    let rest = take (length c.args.ranges.now - 1) (drop 1 c.args.ranges.now) in
    let numbers = c.as_slice-number-items.result.now in
    let first = slice_index_or c.args.ranges.now 0 (record { least = pos 0; greatest = pos 0 }) in
    flat_ends (behind c.args.name.now c.args.indices.now rest) numbers c.loop-number.number-index c.args.names.now.items c.loop-number.names.items c.loop-number-test.false c.loop-number.invariant
    ∙ ap (λ ns. c.args.names.now.items ++ ns) (behind_all c.args.name.now c.args.indices.now rest numbers
    ∙ ap (λ (ys : List ℤ). map (λ zs. member_name c.args.name.now (c.args.indices.now ++ zs)) (flat_map (λ z. map (λ zs. z ∷ zs) (index_tuples rest)) ys)) (c.as_slice-number-items.ensures.value ∙ c.in_ok-numbers-in-len1-up.ensures)
    ∙ ap (λ rs. map (λ zs. member_name c.args.name.now (c.args.indices.now ++ zs)) (index_tuples rs)) (sym (first_and_rest c.args.ranges.now (record { least = pos 0; greatest = pos 0 }) c.in-len1-up.len_at_least)))
