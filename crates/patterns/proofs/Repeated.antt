-- What the first slots of a pattern come to: whole groups, and the first sizes of one more. Assumes nothing.
use Rattle.std.proofs.Common.{◌≡◌, ℕ, zero, suc, ◌+◌, ◌*◌, ◌/◌, ◌%◌, ◌<◌, ◌≤◌, List, length, get_or, refl, ap, arith}
use Rattle.std.proofs.lemmas.List.FromFn.{length-map-range_with_len, get_or-map-range_with_len}
use Rattle.std.proofs.lemmas.Nat.{div-add-mod', mod-mul-add, mod_below}
use Rattle.totals.specs.Totals.{total}
use Rattle.totals.proofs.Steps.{total_more}
use Rattle.envelopes.specs.Bounds.{max_bytes}
use Rattle.stored.specs.Stored.{due_bound}
use Rattle.patterns.specs.declared.pattern.Pattern.{Pattern}
use Rattle.patterns.specs.Pattern.{size_at, repeated, pattern_due, pattern_frames}

module _ (group : List ℕ) (slots : ℕ) where
  due_more : (j : ℕ) → j < slots → pattern_due group slots (j + 1) ≡ pattern_due group slots j + size_at group slots j
  due_more j h = grind (arith, total_more (repeated group slots) j, length-map-range_with_len (size_at group slots) 0 slots, get_or-map-range_with_len (size_at group slots) 0 slots j j 0)

  -- after q groups, the first r sizes of the next
  part : (q r k : ℕ) → pattern_due group slots (q * length group) ≡ q * total group (length group) → q * length group + r ≡ k → r ≤ length group → k ≤ slots →
      pattern_due group slots k ≡ q * total group (length group) + total group r
  part q zero k whole e h l = grind (arith, whole)
  part q (suc r) k whole e h l =
      let j = q * length group + r in
      let at : size_at group slots j ≡ get_or group r 0 = ap (λ i. get_or group i 0) (mod-mul-add q (length group) r (omega arith)) in
      grind (arith, at, due_more j, total_more group r, part q r j whole refl)

  groups : (q k : ℕ) → q * length group ≡ k → k ≤ slots → pattern_due group slots k ≡ q * total group (length group)
  groups zero k e l = grind arith
  groups (suc q) k e l = grind (arith, part q (length group) k (groups q (q * length group) refl (omega arith)))

  whole_and_part : (k : ℕ) → 0 < length group → k ≤ slots →
      pattern_due group slots k ≡ k / length group * total group (length group) + total group (k % length group)
  whole_and_part k some l =
      let all = div-add-mod' k (length group) in
      part (k / length group) (k % length group) k (groups (k / length group) (k / length group * length group) refl (omega arith)) all (omega (arith, mod_below k (length group) some)) l

-- by the sums of its group, which is no more bytes than a limit allows
pub due_by_sums : (p : Pattern) (k : ℕ) → k ≤ p.slots → let n = length p.group.now in let due = k / n * get_or p.sums n 0 + get_or p.sums (k % n) 0 in
    (due ≡ pattern_due p.group.now p.slots k) × (due ≤ max_bytes)
due_by_sums p k l =
    let group = p.group.now in
    let n = length group in
    let is : k / n * get_or p.sums n 0 + get_or p.sums (k % n) 0 ≡ pattern_due group p.slots k =
    grind (arith, p.summed n, p.summed (k % n), mod_below k n, whole_and_part group p.slots k p.fits.sizes l) in
    (is, omega (arith, is, due_bound p.slots (pattern_due group p.slots) (pattern_frames group p.slots p.fits) k l))
