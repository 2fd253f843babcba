use Rattle.std.proofs.Common.{rules, ◌≡◌, ◌∙◌, sym, true, FitsSigned}
use Rattle.std.specs.Int.{w64}
use Rattle.std.proofs.lemmas.Int.{to_z-of_z}
use Rattle.sm_forms.specs.Meanings.{is_constant}
use Rattle.sm_meaning.specs.Scopes.{count_of}
use Rattle.sm_parts.proofs.EntryTrials.{number_goes}
use Rattle.sm_parts.proofs.role.entry_in.Goals as goal

pub returns-then-is_constant : goal.returns-then-is_constant
returns-then-is_constant c = λ g is count.
    let narrow : FitsSigned w64 c.constant.result = search rules in
    let constant : is_constant (count_of c.args.scope.now) g ≡ true = sym (c.is_constant.ensures.same (count_of c.args.scope.now) g is) ∙ c.if-is_constant.true in
    number_goes c.args.scope.now c.args.place g _ count constant (to_z-of_z w64 c.constant.result narrow ∙ c.constant.ensures.value (count_of c.args.scope.now) g is)
