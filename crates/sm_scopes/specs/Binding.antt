-- What binding one name comes to, whatever binders follow it.
use Rattle.std.specs.Prelude.{◌≡◌, ℕ, List, ◌∷◌, Result, Ok, Err}
use Rattle.sm_syntax.specs.declared.tree.Bind.{Bind}
use Rattle.sm_meaning.specs.declared.refusal.ExpandRefusal.{ExpandRefusal}
use Rattle.sm_meaning.specs.Trials.{IsStopped}
use Rattle.sm_meaning.specs.Scopes.{Tuple, Scope, with_number}
use Rattle.sm_meaning.specs.Tuples.{span_of}
use Rattle.sm_scopes.specs.declared.cases.Wheel.{Wheel}
use Rattle.sm_scopes.specs.Wheels.{span, IsAtFirst}
use Rattle.sm_meaning.specs.ExpressionTrials.{binds_tried}

-- the wheel of a binder, behind what is bound
pub record IsWheelOf (x : Bind) (s : Scope) (b : Tuple) (w : Wheel) : Type 0 where
  pub tried : (xs : List Bind) (count : ℕ) → binds_tried (x ∷ xs) s b count ≡ binds_tried xs s (with_number b w.name.now w.number) count
  pub span : span w ≡ span_of s.names x
  pub first : IsAtFirst w

-- a wheel behind which what follows is tried; or all is refused, whatever follows
abbrev pub Binds : Bind → Scope → Tuple → Result Wheel ExpandRefusal → Type 0
Binds x s b (Ok w) = IsWheelOf x s b w
Binds x s b (Err e) = (xs : List Bind) (count : ℕ) → IsStopped e (binds_tried (x ∷ xs) s b count)
