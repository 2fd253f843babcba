-- What reading a whole text says of it.
use Rattle.std.proofs.Common.{◌≡◌, ◌∙◌, sym, subst, refl, ℕ, false, List, [], ◌∷◌}
use Rattle.sm_syntax.specs.declared.terminal.Terminal.{Terminal}
use Rattle.sm_syntax.specs.declared.terminal.Terminal.TheVariants as terminal
use Rattle.sm_syntax.specs.declared.failure.Failure.{Failure}
use Rattle.sm_syntax.specs.declared.failure.Failure.TheVariants as failure
use Rattle.sm_syntax.specs.declared.place.Place.{Place}
use Rattle.sm_syntax.specs.declared.ParseRefusal.{ParseRefusal}
use Rattle.sm_syntax.specs.declared.ParseRefusal.TheVariants as refusal
use Rattle.sm_syntax.specs.Terminals.{code_of}
use Rattle.sm_syntax.specs.Tokens.{Token, tokens}
use Rattle.sm_syntax.specs.Grammar.{grammar, start, token_end}
use Rattle.sm_syntax.specs.Parsing.{kind, Step, noted_as, Builds, nothing, reads, Halt, bad, too_deep, accepted, Run, eats, whole, is_too_deep, depth_after}
use Rattle.sm_syntax.specs.Reading.{Standing, left, next, Leads, Stops, Fault}
use Rattle.sm_syntax.specs.TreeSteps.{tree_then}
use Rattle.sm_syntax.specs.Trees.{Tree}
use Rattle.sm_syntax.specs.Models.{IsModel, IsTreeOf, IsFirstBad, IsTooDeep, refusal_at}
use Rattle.sm_syntax.proofs.OneToken.{grammar_ll1, start_open}
use Rattle.sm_syntax.proofs.ParsingLaws.{builds_derives, first_bad, first_deep, bad_is_shallow, accepted_is_shallow}

-- ---- a text that is read to its end

end_noted : (x : Terminal) (t : Token) (r : List Step) → code_of x ≡ 69 → r ≡ noted_as x t r
end_noted terminal.Name t r h = let wrong : 0 ≡ 69 = h in cc
end_noted terminal.Number t r h = let wrong : 1 ≡ 69 = h in cc
end_noted _ t r h = refl

-- the end of a text, as tokens that a tree lists
end_builds : (t : Token) (ts : List Token) → kind t ≡ 69 → ts ≡ [] → Builds grammar (token_end ∷ []) (t ∷ ts) []
end_builds t ts is none = reads 69 t [] ts [] [] (sym is) (end_noted t.terminal t [] is) (subst (λ (u : List Token). Builds grammar [] u []) (sym none) nothing)

end_fits : (d c : ℕ) → c ≡ 69 → is_too_deep d c ≡ false
end_fits d c is = subst (λ (x : ℕ). is_too_deep d x ≡ false) (sym is) refl

end_runs : (d : ℕ) (t : Token) (ts : List Token) → kind t ≡ 69 → ts ≡ [] → Run grammar (token_end ∷ []) d (t ∷ ts) accepted
end_runs d t ts is none = eats 69 [] d t ts accepted (sym is) (end_fits d (kind t) is) (subst (λ (u : List Token). Run grammar [] (depth_after d (kind t)) u accepted) (sym none) (whole (depth_after d (kind t))))

pub read_tree : (s t : Standing) (text : List ℕ) (whole_tree : Tree) → left s ≡ tokens text → Leads s start (tree_then whole_tree) t (token_end ∷ []) → next t ≡ 69 → t.later ≡ [] → IsTreeOf text whole_tree
read_tree s t text whole_tree all lead is last = subst (λ (u : List Token). Builds grammar start u (tree_then whole_tree [])) all (lead.builds [] [] (end_builds t.first t.later is last))

pub tree_model : (text : List ℕ) (whole_tree : Tree) → IsTreeOf text whole_tree → IsModel text
tree_model text whole_tree b = builds_derives b

-- from the first token on, with no bracket open
from_start : (s : Standing) (text : List ℕ) (o : Halt) → left s ≡ tokens text → s.depth ≡ 0 → Run grammar start s.depth (left s) o → Run grammar start 0 (tokens text) o
from_start s text o all closed run = subst (λ (d : ℕ). Run grammar start d (tokens text) o) closed (subst (λ (u : List Token). Run grammar start s.depth u o) all run)

pub read_shallow : (s t : Standing) (text : List ℕ) (f : List Step → List Step) → left s ≡ tokens text → s.depth ≡ 0 → Leads s start f t (token_end ∷ []) → next t ≡ 69 → t.later ≡ [] → IsTooDeep text → ⊥
read_shallow s t text f all closed lead is last deep =
    accepted_is_shallow grammar_ll1 (from_start s text accepted all closed (lead.run [] accepted (end_runs t.depth t.first t.later is last))) start_open deep.0 deep.1

-- ---- a text that is refused

stop_runs : (s : Standing) (text : List ℕ) (o : Halt) → left s ≡ tokens text → s.depth ≡ 0 → Stops s start o → Run grammar start 0 (tokens text) o
stop_runs s text o all closed stop = from_start s text o all closed (stop.run [])

-- the place of the refusal is that of the next token
pub refused_syntax : (s t : Standing) (text : List ℕ) (f : Failure) (p : Place) (r : ParseRefusal) (l c : ℕ) → left s ≡ tokens text → s.depth ≡ 0 → p ≡ t.first.place → Fault s start t f
    → r ≡ refusal_at f p → r ≡ refusal.Syntax l c → IsFirstBad text (record { line = l; column = c })
refused_syntax s t text failure.Syntax p r l c all closed at fault is found =
    let e : refusal.Syntax p.line p.column ≡ refusal.Syntax l c = sym is ∙ found in
    let el : p.line ≡ l = cc in
    let ec : p.column ≡ c = cc in
    (t.first, first_bad grammar_ll1 (stop_runs s text (bad (left t)) all closed fault) t.first t.later refl start_open, sym at ∙ same_place p l c el ec)
  where
    same_place : (q : Place) (m n : ℕ) → q.line ≡ m → q.column ≡ n → q ≡ record { line = m; column = n }
    same_place q m n a b = rw (sym a, sym b) refl
refused_syntax s t text failure.Nesting p r l c all closed at fault is found = let e : refusal.Nesting 65 ≡ refusal.Syntax l c = sym is ∙ found in cc
refused_syntax s t text failure.OutOfMemory p r l c all closed at fault is found = let e : refusal.OutOfMemory ≡ refusal.Syntax l c = sym is ∙ found in cc

pub refused_below : (s t : Standing) (text : List ℕ) (f : Failure) (p : Place) (r : ParseRefusal) (l c : ℕ) → left s ≡ tokens text → s.depth ≡ 0 → Fault s start t f
    → r ≡ refusal_at f p → r ≡ refusal.Syntax l c → IsTooDeep text → ⊥
refused_below s t text failure.Syntax p r l c all closed fault is found deep =
    bad_is_shallow grammar_ll1 (stop_runs s text (bad (left t)) all closed fault) start_open deep.0 deep.1
refused_below s t text failure.Nesting p r l c all closed fault is found deep = let e : refusal.Nesting 65 ≡ refusal.Syntax l c = sym is ∙ found in cc
refused_below s t text failure.OutOfMemory p r l c all closed fault is found deep = let e : refusal.OutOfMemory ≡ refusal.Syntax l c = sym is ∙ found in cc

pub refused_nesting : (s t : Standing) (text : List ℕ) (f : Failure) (p : Place) (r : ParseRefusal) (n : ℕ) → left s ≡ tokens text → s.depth ≡ 0 → Fault s start t f
    → r ≡ refusal_at f p → r ≡ refusal.Nesting n → (n ≡ 65) × IsTooDeep text
refused_nesting s t text failure.Syntax p r n all closed fault is found = let e : refusal.Syntax p.line p.column ≡ refusal.Nesting n = sym is ∙ found in cc
refused_nesting s t text failure.Nesting p r n all closed fault is found =
    let e : refusal.Nesting 65 ≡ refusal.Nesting n = sym is ∙ found in
    let count : 65 ≡ n = cc in
    (sym count, (t.first, first_deep grammar_ll1 (stop_runs s text (too_deep (left t)) all closed fault) t.first t.later refl))
refused_nesting s t text failure.OutOfMemory p r n all closed fault is found = let e : refusal.OutOfMemory ≡ refusal.Nesting n = sym is ∙ found in cc
