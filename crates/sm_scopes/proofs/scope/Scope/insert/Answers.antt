use Rattle.std.proofs.Common.{subst, ℕ, length, rules, ◌≡◌, ◌∙◌, ap, sym, map, is_some, false, ◌++◌, ◌∷◌, []}
use Rattle.std.proofs.lemmas.List.{map-append}
use Rattle.indexmap.specs.IndexMap.{insert_entry}
use Rattle.sm_meaning.specs.Scopes.{found, Names, count_of}
use Rattle.sm_scopes.specs.Things.{thing_of, HasVariables, IsKept}
use Rattle.sm_scopes.proofs.Names.{entry_of, is_key, new_last, on_ok, kept_name}
use Rattle.sm_scopes.proofs.scope.Scope.insert.Goals as goal

pub returns-clause-ok : goal.returns-clause-ok
returns-clause-ok c =
    let seen : map entry_of c.self.inside.names.entries ≡ c.args.self.now.names = search rules in
    let new : is_some (found (map entry_of c.self.inside.names.entries) c.args.name.now) ≡ false = ap (λ (es : Names). is_some (found es c.args.name.now)) seen ∙ c.requires.new in
    let put = on_ok c.insert.result (c.insert.new.self.entries ≡ insert_entry (λ k. is_key k.now) c.self.inside.names.entries c.args.name c.args.thing) c.insert.ensures.entries (sym c.is_err.ensures.value ∙ c.if-is_err.false) in
    ap (map entry_of) (put ∙ new_last c.args.name c.args.thing c.self.inside.names.entries new)
    ∙ map-append entry_of c.self.inside.names.entries ((c.args.name, c.args.thing) ∷ [])
    ∙ ap (λ es. es ++ (c.args.name.now, thing_of c.args.thing) ∷ []) seen

pub invariant_of-self-2 : goal.invariant_of-self-2
invariant_of-self-2 c =
    let before = c.self.inside.names.entries in
    let seen : map entry_of before ≡ c.args.self.now.names = search rules in
    let new : is_some (found (map entry_of before) c.args.name.now) ≡ false = ap (λ (es : Names). is_some (found es c.args.name.now)) seen ∙ c.requires.new in
    let put = on_ok c.insert.result (c.insert.new.self.entries ≡ insert_entry (λ k. is_key k.now) before c.args.name c.args.thing) c.insert.ensures.entries (sym c.is_err.ensures.value ∙ c.if-is_err.false) in
    let after : map entry_of c.insert.new.self.entries ≡ map entry_of before ++ (c.args.name.now, thing_of c.args.thing) ∷ [] =
    ap (map entry_of) (put ∙ new_last c.args.name c.args.thing before new) ∙ map-append entry_of before ((c.args.name, c.args.thing) ∷ []) in
    let n : count_of c.args.self.now ≡ length c.self.inside.kinds.items = search rules in
    let has : HasVariables (length c.self.inside.kinds.items) (thing_of c.args.thing) = subst (λ (k : ℕ). HasVariables k (thing_of c.args.thing)) n c.requires.variables in
    subst (λ (es : Names). IsKept es c.self.inside.kinds.items) (sym after) (kept_name (map entry_of before) c.self.inside.kinds.items c.args.name.now (thing_of c.args.thing) c.self.invariant has)
