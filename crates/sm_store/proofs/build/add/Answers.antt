use Rattle.std.proofs.Common.{◌≡◌, refl, ◌∷◌, [], ap, rules, arith, w64}
use Rattle.std.proofs.lemmas.Int.{to_z-of_z}
use Rattle.std.proofs.lemmas.Slice.{pushed}
use Rattle.sm_store.specs.declared.place.Place.{Place}
use Rattle.sm_store.specs.Stores.{extent_of}
use Rattle.sm_store.specs.Blocks.{IsPart, extent_in}
use Rattle.sm_store.proofs.Laying.{added}
use Rattle.sm_store.proofs.build.add.Goals as goal
use mir.Val.{SFits}

pub returns-clause-extents : goal.returns-clause-extents
returns-clause-extents c =
    let base : SFits w64 c.base_of-base.result = search rules in
    let place = simp to_z-of_z at c.new_place-place.ensures in
    let own = simp to_z-of_z at c.in_ok-part.ensures.part in
    let own_values = simp to_z-of_z at c.in_ok-part.ensures.values in
    let block = pushed c.as_slice.result.now refl c.in_ok-extend_from_slice.was c.extend_from_slice.ensures.items in
    let places = pushed (c.new_place-place.result ∷ []) refl c.in_ok-push.was c.push.ensures.items in
    let start = ap (λ (p : Place). p.start) place in
    let end = ap (λ (p : Place). p.end) place in
    let part : IsPart c.new_place-place.result.kind c.new_place-place.result.base c.as_slice.result.now = rw (place, c.as_slice.ensures.value) own in
    let same : extent_in c.new_place-place.result.kind c.new_place-place.result.base c.as_slice.result.now ≡ extent_of c.args.var.now = rw (place, c.as_slice.ensures.value, own_values, c.base_of-base.ensures.value) refl in
    (added c.args.places.now.items c.args.block.now.items c.as_slice.result.now c.new_place-place.result c.push.new.self.items c.extend_from_slice.new.self.items (extent_of c.args.var.now) c.requires.parts places block (omega (arith, start, c.args.block.now.ok)) (omega (arith, end, c.extend_from_slice.new.self.ok)) part same).extents

pub returns-clause-parts : goal.returns-clause-parts
returns-clause-parts c =
    let base : SFits w64 c.base_of-base.result = search rules in
    let place = simp to_z-of_z at c.new_place-place.ensures in
    let own = simp to_z-of_z at c.in_ok-part.ensures.part in
    let own_values = simp to_z-of_z at c.in_ok-part.ensures.values in
    let block = pushed c.as_slice.result.now refl c.in_ok-extend_from_slice.was c.extend_from_slice.ensures.items in
    let places = pushed (c.new_place-place.result ∷ []) refl c.in_ok-push.was c.push.ensures.items in
    let start = ap (λ (p : Place). p.start) place in
    let end = ap (λ (p : Place). p.end) place in
    let part : IsPart c.new_place-place.result.kind c.new_place-place.result.base c.as_slice.result.now = rw (place, c.as_slice.ensures.value) own in
    let same : extent_in c.new_place-place.result.kind c.new_place-place.result.base c.as_slice.result.now ≡ extent_of c.args.var.now = rw (place, c.as_slice.ensures.value, own_values, c.base_of-base.ensures.value) refl in
    (added c.args.places.now.items c.args.block.now.items c.as_slice.result.now c.new_place-place.result c.push.new.self.items c.extend_from_slice.new.self.items (extent_of c.args.var.now) c.requires.parts places block (omega (arith, start, c.args.block.now.ok)) (omega (arith, end, c.extend_from_slice.new.self.ok)) part same).parts
