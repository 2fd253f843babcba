-- Linear forms, and what they come to.
use Rattle.std.specs.Prelude.{◌≡◌, ◌≢◌, ℕ, ◌+◌, ◌≤◌, ◌<◌, List, [], ◌∷◌, ℤ, pos, ◌+ℤ◌, ◌*ℤ◌, unsigned_abs, Option, Some, None, Result, Ok, Err}
use Rattle.sm_kinds.specs.Sums.{sum_at}
use Rattle.sm_forms.specs.Meanings.{Values, Meaning, greatest_value}
use Rattle.sm_forms.specs.declared.form.Form.{Form}
use Rattle.sm_forms.specs.declared.refusal.FormRefusal.{FormRefusal}
use Rattle.sm_forms.specs.declared.refusal.FormRefusal.TheVariants.{TooLarge, OutOfMemory}

-- what the form comes to, times the denominator
abbrev pub value_at : Form → Values → ℤ
value_at f a = sum_at f.terms a.numerator +ℤ (f.constant *ℤ a.denominator)

-- a term of a variable from `from` on and below n
pub record IsTerm (n from : ℕ) (t : ℕ × ℤ) : Type 0 where
  pub at_least : from ≤ t.0
  pub below : t.0 < n
  pub nonzero : t.1 ≢ pos 0
  pub small : unsigned_abs t.1 ≤ greatest_value

-- the variables of the terms rise
abbrev pub Rises : ℕ → ℕ → List (ℕ × ℤ) → Type 0
Rises n from [] = Unit {0}
Rises n from (t ∷ ts) = IsTerm n from t × Rises n (t.0 + 1) ts

pub record IsForm (n : ℕ) (f : Form) : Type 0 where
  pub terms : Rises n 0 f.terms
  pub constant : unsigned_abs f.constant ≤ greatest_value

-- it is a form of n variables, and comes to this meaning
pub record IsFormOf (n : ℕ) (g : Meaning) (f : Form) : Type 0 where
  pub form : IsForm n f
  pub comes_to : (a : Values) → g a ≡ value_at f a

-- a form of the meaning, or the first of its numbers that is too large; want of memory may come anywhere
abbrev pub Comes : Option ℕ → (Form → Type 0) → Result Form FormRefusal → Type 0
Comes large P (Ok f) = (large ≡ None) × P f
Comes large P (Err (TooLarge found)) = large ≡ Some found
Comes large P (Err OutOfMemory) = Unit {0}

-- the first of the numbers that is too large, or want of memory
abbrev pub IsRefused : Option ℕ → FormRefusal → Type 0
IsRefused large (TooLarge found) = large ≡ Some found
IsRefused large OutOfMemory = Unit {0}
