-- The meaning of an envelope: how many bytes may have been sent by the end of each slot. Assumes nothing.
use Rattle.std.specs.Prelude.{◌≡◌, ℕ, ◌+◌, ◌≤◌}

-- the most slots of an envelope
abbrev pub max_slots : ℕ
max_slots = 1048575

-- the most bytes that a limit allows
abbrev pub max_bytes : ℕ
max_bytes = 1099511627775

-- a limit at the slots 0 to n: it never falls, it is at most `max_bytes`, and past n it is as at n
pub record Limit (n : ℕ) : Type 0 where
  pub at : ℕ → ℕ
  pub rises : (k : ℕ) → at k ≤ at (k + 1)
  pub bound : (k : ℕ) → at k ≤ max_bytes
  pub past : (k : ℕ) → n ≤ k → at k ≡ at n

-- the slot count N, the lower limit L and the upper limit U, with their laws: by the end of slot k at least L(k) and
-- at most U(k) bytes are to have been sent
pub record Bounds : Type 0 where
  pub slots : ℕ
  pub some : 1 ≤ slots
  pub few : slots ≤ max_slots
  pub lower : Limit slots
  pub upper : Limit slots
  pub starts : upper.at 0 ≡ 0
