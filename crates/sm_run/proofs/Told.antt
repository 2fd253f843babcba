-- From what comes of putting what is due to how a run ends.
use Rattle.std.proofs.Common.{◌≡◌, ◌∙◌, ap, sym, refl, subst, arith, inl, inr, ℕ, ◌≤◌, ◌⊎◌, List, [], ◌++◌, append-nil, Option, Some, None}
use Rattle.std.specs.Io.KnownBytes.{Appends}
use Rattle.sm_base.specs.Causes.{Rose}
use Rattle.sm_base.specs.Bytes.{AppendsFront}
use Rattle.sm_search.specs.declared.refusal.WorkRefusal.{WorkRefusal}
use Rattle.sm_reports.specs.declared.error.ErrorLine.{ErrorLine}
use Rattle.sm_reports.specs.declared.error.ErrorLine.TheVariants as error
use Rattle.sm_reports.specs.Errors.{error_text}
use Rattle.sm_run.specs.declared.ending.Ending.{Ending}
use Rattle.sm_run.specs.declared.ending.Ending.TheVariants as ending
use Rattle.sm_run.specs.Devices.{Device, Puts, Fails, Keeps}
use Rattle.sm_run.specs.Endings.{IsWorkLine, EndsBy}
use Rattle.sm_run.specs.Telling.{device, IsTold, TellsError}
use Rattle.sm_run.specs.Searching.{HaltsAside}

-- ---- devices

-- nothing, and then these
pub appends_next : (x y z : Option (List ℕ)) (xs : List ℕ) → Appends x y [] → Appends y z xs → Appends x z xs
appends_next None y z xs one two = tt
appends_next (Some a) None z xs one two = absurd one
appends_next (Some a) (Some b) None xs one two = absurd two
appends_next (Some a) (Some b) (Some c) xs one two = two ∙ ap (λ (k : List ℕ). k ++ xs) (one ∙ append-nil a)

front_next : (x y z : Option (List ℕ)) (xs : List ℕ) → Appends x y [] → AppendsFront y z xs → AppendsFront x z xs
front_next x y z xs one (n, within, two) = (n, within, appends_next x y z _ one two)

pub rose_later : (a b c : ℕ) → a ≤ b → Rose b c → Rose a c
rose_later a b c le rose = omega arith

pub fails_next : (x y z : Option (List ℕ)) (a b c : ℕ) (text : List ℕ) → a ≤ b → Appends x y [] → Fails (device b c y z) text → Fails (device a c x z) text
fails_next x y z a b c text le one two = record { front = front_next x y z text one two.front; rose = rose_later a b c le two.rose }

pub appends_none : (x : Option (List ℕ)) → Appends x x []
appends_none None = tt
appends_none (Some a) = sym (append-nil a)

pub puts_none : (a b : ℕ) (x : Option (List ℕ)) → Puts (device a b x x) []
puts_none a b x = appends_none x

-- ---- endings

-- the ending says that something is told
abbrev pub IsTelling : Ending → Type 0
IsTelling ending.Untold = ⊥
IsTelling (ending.Stopped r) = ⊥
IsTelling _ = Unit {0}

module _ (due : Ending → List ℕ → Type 0) (stops : WorkRefusal → Type 0) (d : Device) where
  put_whole : (own : Ending) (text : List ℕ) → IsTelling own → due own text → Puts d text → EndsBy due stops d own
  put_whole (ending.Solved o) text is h put = (text, h, put)
  put_whole ending.Accepted text is h put = (text, h, put)
  put_whole ending.LogRefused text is h put = (text, h, put)
  put_whole (ending.Refused line) text is h put = (text, h, put)
  put_whole ending.Early text is h put = (text, h, put)
  put_whole (ending.Stopped r) text is h put = absurd is
  put_whole ending.Untold text is h put = absurd is

  -- what is due was told, or a front of it
  pub ends_told : (own end : Ending) (text : List ℕ) → IsTelling own → due own text → IsTold d text own end → EndsBy due stops d end
  ends_told own end text is h (inl (same, put)) = subst (λ (x : Ending). EndsBy due stops d x) (sym same) (put_whole own text is h put)
  ends_told own end text is h (inr (same, fails)) = subst (λ (x : Ending). EndsBy due stops d x) (sym same) (own, text, h, fails)

  -- this error was told, or that memory ran out
  pub ends_refused : (line : ErrorLine) (end : Ending) → due (ending.Refused line) (error_text line) → due (ending.Refused error.Memory) (error_text error.Memory)
      → IsTold d (error_text line) (ending.Refused line) end ⊎ IsTold d (error_text error.Memory) (ending.Refused error.Memory) end → EndsBy due stops d end
  ends_refused line end h k (inl told) = ends_told (ending.Refused line) end (error_text line) tt h told
  ends_refused line end h k (inr told) = ends_told (ending.Refused error.Memory) end (error_text error.Memory) tt k told

-- the same ending, by what is weaker
pub ends_weaker : (due wider : Ending → List ℕ → Type 0) (stops more : WorkRefusal → Type 0) (d : Device) (end : Ending)
    → ((own : Ending) (text : List ℕ) → due own text → wider own text) → ((r : WorkRefusal) → stops r → more r)
    → EndsBy due stops d end → EndsBy wider more d end
ends_weaker due wider stops more d (ending.Solved o) f g (text, h, put) = (text, f (ending.Solved o) text h, put)
ends_weaker due wider stops more d ending.Accepted f g (text, h, put) = (text, f ending.Accepted text h, put)
ends_weaker due wider stops more d ending.LogRefused f g (text, h, put) = (text, f ending.LogRefused text h, put)
ends_weaker due wider stops more d (ending.Refused line) f g (text, h, put) = (text, f (ending.Refused line) text h, put)
ends_weaker due wider stops more d ending.Early f g (text, h, put) = (text, f ending.Early text h, put)
ends_weaker due wider stops more d (ending.Stopped r) f g h = g r h
ends_weaker due wider stops more d ending.Untold f g (own, text, h, fails) = (own, text, f own text h, fails)

-- a search that stopped aside: what is told of it
pub halts_told : (r : WorkRefusal) (line : ErrorLine) (d : Device) (end : Ending) → IsWorkLine r line → IsWorkLine r error.Memory → TellsError line d end → HaltsAside r d end
halts_told r line d end w m (inl (inl (is, put))) = subst (HaltsAside r d) (sym is) (w, put)
halts_told r line d end w m (inl (inr (is, fails))) = subst (HaltsAside r d) (sym is) (line, w, fails)
halts_told r line d end w m (inr (inl (is, put))) = subst (HaltsAside r d) (sym is) (m, put)
halts_told r line d end w m (inr (inr (is, fails))) = subst (HaltsAside r d) (sym is) (error.Memory, m, fails)
