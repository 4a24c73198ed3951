-- What callers use of a film that was made. Assumes nothing.
use Rattle.std.proofs.Common.{◌≡◌, ℕ, ◌+◌, ◌-◌, ◌<◌, ◌≤◌, List, length, get_or, replicate, Ok, ◌∙◌, arith}
use Rattle.std.proofs.lemmas.List.{get_or_append_left}
use Rattle.std.proofs.lemmas.Bool.Decides.{nat_tests}
use Rattle.readers.specs.Reading.{Reading, Ending, plain, fault}
use Rattle.totals.specs.Totals.{total, totals_of}
use Rattle.totals.proofs.Steps.{totals_length, totals_at}
use Rattle.films.specs.Film.{at_film_end, film_result, film_memory}

pub record Made (sizes : List ℕ) (room frames : ℕ) : Type 0 where
  pub all : frames ≡ length sizes
  pub some : 1 ≤ frames
  pub few : frames ≤ 65535
  pub within : frames < room

ended_ok : (ending : Ending) (n frames : ℕ) → at_film_end ending n ≡ Ok frames → (frames ≡ n) × (1 ≤ n)
ended_ok plain n frames e = (grind (arith, nat_tests), grind (arith, nat_tests))
ended_ok (fault x) n frames e = absurd (grind arith)

-- a film has as many frames as its reader had sizes, from 1 to 65,535, and its totals lie within the memory
pub film_made : (r : Reading) (room frames : ℕ) → film_result r room ≡ Ok frames → Made r.sizes room frames
film_made r room frames e =
    let ended : at_film_end r.ending (length r.sizes) ≡ Ok frames = grind (arith, nat_tests) in
    let ends = ended_ok r.ending (length r.sizes) frames ended in
    record { all = ends.0; some = grind (arith, nat_tests); few = grind (arith, nat_tests); within = grind (arith, nat_tests) }

-- its totals
pub film_total : (sizes : List ℕ) (room frames k : ℕ) → frames ≡ length sizes → k ≤ frames → get_or (film_memory (Ok frames) sizes room) k 0 ≡ total sizes k
film_total sizes room frames k all h =
    get_or_append_left (totals_of sizes) (replicate (room - (frames + 1)) 0) 0 k (omega (arith, totals_length sizes)) ∙ totals_at sizes k (omega arith)
