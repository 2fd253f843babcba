-- What a run is given, and what it does to its devices.
use Rattle.std.specs.Prelude.{◌≡◌, ℕ, List, Option}
use Rattle.std.specs.Io.KnownBytes.{Appends}
use Rattle.sm_base.specs.Causes.{Rose}
use Rattle.sm_base.specs.Bytes.{AppendsFront}

pub record Given : Type 0 where
  pub words : List (List ℕ)
  -- the bytes of each file, where the shelf has it and tells them
  pub held : List ℕ → Option (List ℕ)

-- a sink before a run and after it: its count of faults, and what was put to it, where it tells that
pub record Device : Type 0 where
  pub faults_before : ℕ
  pub faults_now : ℕ
  pub before : Option (List ℕ)
  pub now : Option (List ℕ)

pub record Effects : Type 0 where
  -- the shelf's count of faults
  pub read_before : ℕ
  pub read_now : ℕ
  pub out : Device
  pub aside : Device

-- this was put
abbrev pub Puts : Device → List ℕ → Type 0
Puts d text = Appends d.before d.now text

-- nothing was put, and no put failed
pub record Keeps (d : Device) : Type 0 where
  pub same : d.now ≡ d.before
  pub still : d.faults_now ≡ d.faults_before

-- a front of this was put, and then a put failed
pub record Fails (d : Device) (text : List ℕ) : Type 0 where
  pub front : AppendsFront d.before d.now text
  pub rose : Rose d.faults_before d.faults_now
