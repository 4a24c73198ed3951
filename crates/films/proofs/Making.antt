-- Film making after so many frames: what each answer of the reader means for the film, and where its totals stand.
-- Assumes nothing.
use Rattle.std.proofs.Common.{◌≡◌, ℕ, ◌+◌, ◌<◌, ◌≤◌, min, eqb, List, [], ◌∷◌, length, get_or, set, take, drop, IfOk, Some, None, Ok, Err, Option, Result, sym, refl, ap, ◌∙◌, arith}
use Rattle.std.proofs.lemmas.List.{length-drop, drop-drop, drop_all, drop_more, length-take-le, length-set, get_or-take}
use Rattle.std.proofs.lemmas.List.Edits.{fill_by_more}
use Rattle.std.proofs.lemmas.Bool.{cond_both}
use Rattle.std.proofs.lemmas.Bool.Decides.{nat_tests}
use Rattle.readers.specs.Reading.{Reading, Ending, plain, fault, answer}
use Rattle.totals.specs.Totals.{total, totals_of}
use Rattle.totals.proofs.Steps.{totals_all}
use Rattle.films.specs.declared.fault.FilmFault.{FilmFault}
use Rattle.films.specs.declared.fault.FilmFault.TheVariants.{NoFrame}
use Rattle.films.specs.Film.{Taken, at_film_end, film_result, film_memory}
use Rattle.films.proofs.Laws.{film_made}
use Rattle.films.specs.Steps.{film_next, kept_totals}

-- what holds of all frames holds of a film that is made of them
pub made_of : (frames : ℕ) (r : Result ℕ FilmFault) (P : ℕ → Type 0) → r ≡ at_film_end plain frames → P frames → IfOk r P
made_of frames r P e h = rw e (cond_both (eqb frames 0) (Err NoFrame) (Ok frames) (λ x. IfOk x P) (λ _. tt) (λ _. h))

-- where the first i totals stand and the next one is put in, the first i + 1 stand
pub put_in : (sizes memory : List ℕ) (i sum : ℕ) → sum ≡ total sizes i → i < length memory → ((k : ℕ) → k < i → get_or memory k 0 ≡ total sizes k) →
    (k : ℕ) → k < i + 1 → get_or (set memory i sum) k 0 ≡ total sizes k
put_in sizes memory i sum e = rw e (fill_by_more (total sizes) memory i 0)

-- the totals that are kept are the film's
pub kept_is_film : (film : Result ℕ FilmFault) (sizes memory : List ℕ) (room : ℕ) → length memory ≡ room → IfOk film (λ frames. take (frames + 1) memory ≡ totals_of sizes) → kept_totals film memory ≡ film_memory film sizes room
kept_is_film (Err e) sizes memory room same made = rw same
kept_is_film (Ok frames) sizes memory room same made = rw (same, made)

-- a film's totals lie within the memory
pub film_within : (r : Reading) (room : ℕ) (film : Result ℕ FilmFault) → film ≡ film_result r room → IfOk film (λ frames. frames < room)
film_within r room (Err e) is = tt
film_within r room (Ok frames) is = (film_made r room frames (sym is)).within

-- where the first totals stand and the next one, which is the last, is put in, all stand
pub all_put_in : (sizes memory : List ℕ) (frames sum : ℕ) → frames ≡ length sizes → sum ≡ total sizes frames → frames < length memory → ((k : ℕ) → k < frames → get_or memory k 0 ≡ total sizes k) →
    take (frames + 1) (set memory frames sum) ≡ totals_of sizes
all_put_in sizes memory frames sum all is within stand =
    totals_all sizes (take (frames + 1) (set memory frames sum)) (omega (arith, length-take-le (frames + 1) (set memory frames sum) (omega (arith, length-set memory frames sum)), all))
    (λ k h. let below : k < frames + 1 = omega (arith, all) in get_or-take (frames + 1) (set memory frames sum) k 0 below ∙ put_in sizes memory frames sum is within stand k below)

-- `before` is what the reader had to give at first, and `still` what it has after so many frames
pub record SoFar (before still : Reading) (frames : ℕ) : Type 0 where
  pub taken : Taken frames before still
  pub counted : frames ≤ length before.sizes
  pub few : frames ≤ 65535

module _ {before still after : Reading} {frames : ℕ} (so : SoFar before still frames) (one : Taken 1 still after) where
  -- one more is taken
  pub taken_more : (n : ℕ) → n ≡ frames + 1 → Taken n before after
  taken_more n e = record {
    left = one.left ∙ ap (drop 1) so.taken.left ∙ drop-drop 1 frames before.sizes ∙ ap (λ (m : ℕ). drop m before.sizes) (sym e);
    ending = one.ending ∙ so.taken.ending;
  }

  -- none is to come: all are read
  all_read : (room : ℕ) → frames < room → still.sizes ≡ [] → (frames ≡ length before.sizes) × (film_result before room ≡ at_film_end still.ending frames) × Taken (min 65536 room) before after
  all_read room within none =
      let all : frames ≡ length before.sizes = omega (arith, so.counted, length-drop frames before.sizes, ap length (sym so.taken.left ∙ none)) in (
        all,
        rw so.taken.ending (grind (arith, nat_tests)),
        record {
          left = one.left ∙ ap (drop 1) none ∙ sym (drop_all (min 65536 room) before.sizes (omega arith));
          ending = one.ending ∙ so.taken.ending;
        },
      )

  -- one is to come
  still_more : (size : ℕ) (later : List ℕ) → size ∷ later ≡ still.sizes → (frames < length before.sizes) × (size ≡ get_or before.sizes frames 0)
  still_more size later e =
      let is : size ∷ later ≡ drop frames before.sizes = e ∙ so.taken.left in
      let more : frames < length before.sizes = omega (arith, length-drop frames before.sizes, ap length is) in
      let front = is ∙ drop_more before.sizes frames 0 more in
      (more, (cc))

  -- what it means that the film refuses what comes next: the reader's fault, or one frame too many
  pub at_refusal : (room : ℕ) (x : FilmFault) (r : Result (Option ℕ) FilmFault) (sizes : List ℕ) (ending : Ending) → sizes ≡ still.sizes → ending ≡ still.ending → frames < room → r ≡ film_next (answer sizes ending) frames → r ≡ Err x → (film_result before room ≡ Err x) × Taken (min 65536 room) before after
  at_refusal room x r [] plain none ends within tells e = absurd (grind arith)
  at_refusal room x r [] (fault y) none ends within tells e =
      let all = all_read room within (sym none) in
      (grind arith, all.2)
  at_refusal room x r (y ∷ ys) ending some ends within tells e =
      let more = still_more y ys some in
      (grind (arith, nat_tests), taken_more (min 65536 room) (grind (arith, nat_tests)))

  -- that none comes
  pub at_plain_end : (room : ℕ) (r : Result (Option ℕ) FilmFault) (o : Option ℕ) (sizes : List ℕ) (ending : Ending) → sizes ≡ still.sizes → ending ≡ still.ending → frames < room → r ≡ film_next (answer sizes ending) frames → r ≡ Ok o → o ≡ None → (frames ≡ length before.sizes) × (film_result before room ≡ at_film_end plain frames) × Taken (min 65536 room) before after
  at_plain_end room r o [] plain none ends within tells e none_came = rw (← ends) at all_read room within (sym none)
  at_plain_end room r o [] (fault x) none ends within tells e none_came = absurd (grind arith)
  at_plain_end room r o (y ∷ ys) ending some ends within tells e none_came = absurd (grind (arith, nat_tests))

  -- that a frame of this size comes
  pub at_size : (size : ℕ) (r : Result (Option ℕ) FilmFault) (o : Option ℕ) (sizes : List ℕ) (ending : Ending) → sizes ≡ still.sizes → r ≡ film_next (answer sizes ending) frames → r ≡ Ok o → o ≡ Some size → (size ≡ get_or before.sizes frames 0) × SoFar before after (frames + 1)
  at_size size r o [] plain none tells e came = absurd (grind arith)
  at_size size r o [] (fault x) none tells e came = absurd (grind arith)
  at_size size r o (y ∷ ys) ending some tells e came =
      let more = still_more y ys some in
      (grind (arith, nat_tests), record { taken = taken_more (frames + 1) refl; counted = omega arith; few = grind (arith, nat_tests) })
