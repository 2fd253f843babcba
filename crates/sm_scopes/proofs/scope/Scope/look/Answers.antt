use Rattle.std.proofs.Common.{subst, get_or, ℕ, length, IfSome, rules, ◌≡◌, ◌∙◌, ap, map, option_map}
use Rattle.sm_kinds.specs.Limits.{most_variables}
use Rattle.sm_meaning.specs.Scopes.{found, Names, count_of}
use Rattle.sm_scopes.specs.Things.{thing_of, HasVariables}
use Rattle.sm_scopes.proofs.Names.{entry_of, found_at, wider_has, lent, lent_has, found_has}
use Rattle.sm_scopes.proofs.scope.Scope.look.Goals as goal

pub returns-clause-thing : goal.returns-clause-thing
returns-clause-thing c =
    let seen : map entry_of c.self.inside.names.entries ≡ c.args.self.now.names = search rules in
    lent c.get.result ∙ ap (option_map thing_of) c.get.ensures.value ∙ found_at c.args.name.now c.self.inside.names.entries ∙ ap (λ (es : Names). found es c.args.name.now) seen

pub returns-clause-variables : goal.returns-clause-variables
returns-clause-variables c =
    let is = lent c.get.result ∙ ap (option_map thing_of) c.get.ensures.value ∙ found_at c.args.name.now c.self.inside.names.entries in
    let n : length c.self.inside.kinds.items ≡ count_of c.args.self.now = search rules in
    subst (λ (k : ℕ). IfSome c.get.result (λ t. HasVariables k (thing_of t.now))) n
    (lent_has (length c.self.inside.kinds.items) c.get.result (found (map entry_of c.self.inside.names.entries) c.args.name.now) is
    (found_has (length c.self.inside.kinds.items) (map entry_of c.self.inside.names.entries) c.args.name.now c.self.invariant.things))

pub returns-clause-few : goal.returns-clause-few
returns-clause-few c =
    let entries = c.self.inside.names.entries in
    let is = lent c.get.result ∙ ap (option_map thing_of) c.get.ensures.value ∙ found_at c.args.name.now entries in
    lent_has most_variables c.get.result (found (map entry_of entries) c.args.name.now) is
    (found_has most_variables (map entry_of entries) c.args.name.now
    (λ k d lt. wider_has (length c.self.inside.kinds.items) most_variables (get_or (map entry_of entries) k d).1 c.self.invariant.few (c.self.invariant.things k d lt)))
