-- One token of look-ahead serves the grammar of models.
use Rattle.std.proofs.Common.{◌≡◌, subst, refl, ℕ, true, ◌∷◌, []}
use Rattle.sm_syntax.specs.Grammars.{IsLl1, is_ll1, is_among}
use Rattle.sm_syntax.specs.Grammar.{rows, grammar, start}
use Rattle.sm_syntax.proofs.GrammarTests.{ll1_from_test}
use Rattle.sm_syntax.proofs.GrammarLaws.{IsOpen, at_token}

rows_test : is_ll1 rows ≡ true
rows_test = refl

pub grammar_ll1 : IsLl1 grammar
unfolding grammar
grammar_ll1 = ll1_from_test rows rows_test

end_follows : (d : ℕ) → 69 ≡ d → is_among d (grammar.follow 0) ≡ true
unfolding grammar
end_follows d e = subst (λ (x : ℕ). is_among x (69 ∷ []) ≡ true) e refl

-- behind a model comes the end
pub start_open : IsOpen grammar start
start_open = (λ d w r. let t = at_token r in end_follows d (let q : d ∷ w ≡ 69 ∷ t.0 = t.1 in let e : 69 ≡ d = cc in e), tt)
