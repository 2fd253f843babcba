-- Passing over the next token.
use Rattle.std.proofs.Common.{◌≡◌, ◌∙◌, ap, sym, subst, refl, arith, ◌≤◌, ◌<◌, ◌+◌, ◌==◌, ℕ, Bool, true, false, List, [], ◌∷◌, length, eqb-true, eq-eqb}
use Rattle.std.specs.Prelude.{◌-◌, nat_le}
use Rattle.std.proofs.lemmas.Bool.Decides.{nat_tests}
use Rattle.sm_syntax.specs.declared.terminal.Terminal.{Terminal}
use Rattle.sm_syntax.specs.declared.terminal.Terminal.TheVariants as terminal
use Rattle.sm_syntax.specs.declared.tree.Name.{Name}
use Rattle.sm_syntax.specs.declared.tree.Number.{Number}
use Rattle.sm_syntax.specs.Terminals.{code_of, opens, closes}
use Rattle.sm_syntax.specs.Tokens.{Token}
use Rattle.sm_syntax.specs.Lexing.{is_end, behind}
use Rattle.sm_syntax.specs.Grammars.{leaf}
use Rattle.sm_syntax.specs.Parsing.{kind, Step, noted_as, too_deep}
use Rattle.sm_syntax.specs.Reading.{Standing, left, is_next, is_plain, unlisted, Leads, Stops}
use Rattle.sm_syntax.specs.TreeSteps.{name_then, number_then}
use Rattle.sm_syntax.proofs.Codes.{same_code}
use Rattle.sm_syntax.proofs.Readings.{passed, stop_deep}

pub is_code : (x : Terminal) (s : Standing) → is_next x s ≡ true → code_of x ≡ kind s.first
is_code x s h = eqb-true (code_of x) (kind s.first) h

next_is : (x : Terminal) (s : Standing) → is_next x s ≡ true → s.first.terminal ≡ x
next_is x s h = same_code s.first.terminal x (sym (is_code x s h))

-- a terminal that isn't the end
pub not_end : (x : Terminal) (s : Standing) → is_next x s ≡ true → (code_of x == 69) ≡ false → is_end s.first ≡ false
not_end x s h inner = subst (λ (t : Terminal). (code_of t == 69) ≡ false) (sym (next_is x s h)) inner

plain_end : (x : Terminal) → is_plain x ≡ true → (code_of x == 69) ≡ false
plain_end terminal.End h = let wrong : false ≡ true = h in cc
plain_end _ h = refl

pub plain_not_end : (x : Terminal) (s : Standing) → is_plain x ≡ true → is_next x s ≡ true → is_end s.first ≡ false
plain_not_end x s plain h = not_end x s h (plain_end x plain)

plain_opens : (x : Terminal) → is_plain x ≡ true → opens (code_of x) ≡ false
plain_opens terminal.OpenRound h = let wrong : false ≡ true = h in cc
plain_opens terminal.OpenSquare h = let wrong : false ≡ true = h in cc
plain_opens terminal.OpenBrace h = let wrong : false ≡ true = h in cc
plain_opens _ h = refl

plain_closes : (x : Terminal) → is_plain x ≡ true → closes (code_of x) ≡ false
plain_closes terminal.CloseRound h = let wrong : false ≡ true = h in cc
plain_closes terminal.CloseSquare h = let wrong : false ≡ true = h in cc
plain_closes terminal.CloseBrace h = let wrong : false ≡ true = h in cc
plain_closes _ h = refl

plain_noted : (x : Terminal) (t : Token) (r : List Step) → is_plain x ≡ true → r ≡ noted_as x t r
plain_noted terminal.Name t r h = let wrong : false ≡ true = h in cc
plain_noted terminal.Number t r h = let wrong : false ≡ true = h in cc
plain_noted _ t r h = refl

-- a plain token
pub take_leads : {X : Type 0} (y : X) (x : Terminal) (s t : Standing) → is_plain x ≡ true → is_next x s ≡ true → t.depth ≡ s.depth → s.later ≡ left t → Leads s (leaf (code_of x) ∷ []) (unlisted y) t []
take_leads y x s t plain h depth later = passed (code_of x) (unlisted y) (is_code x s h)
    (rw (plain_opens x plain) refl) (rw (plain_opens x plain, plain_closes x plain) depth) later
    (λ r. plain_noted x s.first r plain ∙ ap (λ (z : Terminal). noted_as z s.first r) (sym (next_is x s h)))

opening_noted : (x : Terminal) (t : Token) (r : List Step) → opens (code_of x) ≡ true → r ≡ noted_as x t r
opening_noted terminal.Name t r h = let wrong : false ≡ true = h in cc
opening_noted terminal.Number t r h = let wrong : false ≡ true = h in cc
opening_noted _ t r h = refl

opening_end : (x : Terminal) → opens (code_of x) ≡ true → (code_of x == 69) ≡ false
opening_end terminal.End h = let wrong : false ≡ true = h in cc
opening_end _ h = refl

pub opening_not_end : (x : Terminal) (s : Standing) → opens (code_of x) ≡ true → is_next x s ≡ true → is_end s.first ≡ false
opening_not_end x s opening h = not_end x s h (opening_end x opening)

below : (n : ℕ) → n < 64 → nat_le 64 n ≡ false
below n h = grind (arith, nat_tests)

above : (n : ℕ) → 64 ≤ n → nat_le 64 n ≡ true
above n h = grind (arith, nat_tests)

-- an opening bracket
pub open_leads : {X : Type 0} (y : X) (x : Terminal) (s t : Standing) → opens (code_of x) ≡ true → is_next x s ≡ true → s.depth < 64 → t.depth ≡ s.depth + 1 → s.later ≡ left t → Leads s (leaf (code_of x) ∷ []) (unlisted y) t []
open_leads y x s t opening h few depth later = passed (code_of x) (unlisted y) (is_code x s h)
    (rw (opening, below s.depth few) refl) (rw opening depth) later
    (λ r. opening_noted x s.first r opening ∙ ap (λ (z : Terminal). noted_as z s.first r) (sym (next_is x s h)))

pub open_stops : (x : Terminal) (s : Standing) → opens (code_of x) ≡ true → is_next x s ≡ true → 64 ≤ s.depth → Stops s (leaf (code_of x) ∷ []) (too_deep (left s))
open_stops x s opening h many = stop_deep s (code_of x) (is_code x s h) (rw (opening, above s.depth many) refl)

closing_opens : (x : Terminal) → closes (code_of x) ≡ true → opens (code_of x) ≡ false
closing_opens terminal.OpenRound h = let wrong : false ≡ true = h in cc
closing_opens terminal.OpenSquare h = let wrong : false ≡ true = h in cc
closing_opens terminal.OpenBrace h = let wrong : false ≡ true = h in cc
closing_opens _ h = refl

closing_noted : (x : Terminal) (t : Token) (r : List Step) → closes (code_of x) ≡ true → r ≡ noted_as x t r
closing_noted terminal.Name t r h = let wrong : false ≡ true = h in cc
closing_noted terminal.Number t r h = let wrong : false ≡ true = h in cc
closing_noted _ t r h = refl

closing_end : (x : Terminal) → closes (code_of x) ≡ true → (code_of x == 69) ≡ false
closing_end terminal.End h = let wrong : false ≡ true = h in cc
closing_end _ h = refl

pub closing_not_end : (x : Terminal) (s : Standing) → closes (code_of x) ≡ true → is_next x s ≡ true → is_end s.first ≡ false
closing_not_end x s closing h = not_end x s h (closing_end x closing)

-- a closing bracket
pub close_leads : {X : Type 0} (y : X) (x : Terminal) (s t : Standing) → closes (code_of x) ≡ true → is_next x s ≡ true → t.depth ≡ s.depth - 1 → s.later ≡ left t → Leads s (leaf (code_of x) ∷ []) (unlisted y) t []
close_leads y x s t closing h depth later = passed (code_of x) (unlisted y) (is_code x s h)
    (rw (closing_opens x closing) refl) (rw (closing_opens x closing, closing) depth) later
    (λ r. closing_noted x s.first r closing ∙ ap (λ (z : Terminal). noted_as z s.first r) (sym (next_is x s h)))

-- a name
pub name_leads : (n : Name) (s t : Standing) → is_next terminal.Name s ≡ true → n.place ≡ s.first.place → n.text ≡ s.first.word → t.depth ≡ s.depth → s.later ≡ left t → Leads s (leaf 0 ∷ []) (name_then n) t []
name_leads n s t h place word depth later = passed 0 (name_then n) (is_code terminal.Name s h) refl depth later
    (λ r. rw (place, word) (ap (λ (z : Terminal). noted_as z s.first r) (sym (next_is terminal.Name s h))))

-- a number
pub number_leads : (n : Number) (s t : Standing) → is_next terminal.Number s ≡ true → n.place ≡ s.first.place → n.value ≡ s.first.value → t.depth ≡ s.depth → s.later ≡ left t → Leads s (leaf 1 ∷ []) (number_then n) t []
number_leads n s t h place value depth later = passed 1 (number_then n) (is_code terminal.Number s h) refl depth later
    (λ r. rw (place, value) (ap (λ (z : Terminal). noted_as z s.first r) (sym (next_is terminal.Number s h))))

pub shorter : (s t : Standing) → s.later ≡ left t → length t.later < length s.later
shorter s t later = let e = ap length later in omega arith

-- nothing stands behind the end
pub behind_end : (t : Token) (ts : List Token) → 69 ≡ kind t → behind t ts ≡ []
behind_end t ts is =
    let ends : (kind t == 69) ≡ true = subst (λ (n : ℕ). (n == 69) ≡ true) is refl in
    rw ends refl

-- ---- a comparison of terminals

pub same_test : (b : Bool) (m n : ℕ) → (b ≡ true → m ≡ n) → (b ≡ false → m ≡ n → ⊥) → b ≡ (m == n)
same_test true m n is differs = sym (eq-eqb m n (is refl))
same_test false m n is differs = here (m == n) (λ h. differs refl (eqb-true m n h))
  where
    here : (d : Bool) → (d ≡ true → ⊥) → false ≡ d
    here true k = absurd (k refl)
    here false k = refl
