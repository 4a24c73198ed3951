use Rattle.std.proofs.Common.{◌≡◌, ℕ, ◌*◌, ◌<◌, ◌≤◌, get_or}
use Rattle.totals.specs.Totals.{total, max_size}
use Rattle.films.proofs.Making.{SoFar}
use Rattle.films.proofs.make.read_frames.Given as goal

-- the totals of the frames so far stand in the entries, but for the last of them
abbrev pub invariant-loop-frames : goal.invariant-loop-frames
invariant-loop-frames g l =
    let before = g.R.Reader.reading l.initial.reader in
    record {
      so_far : SoFar before (g.R.Reader.reading l.reader) l.frames;
      last : l.sum ≡ total before.sizes l.frames;
      bound : l.sum ≤ l.frames * max_size;
      written : (k : ℕ) → k < l.frames → get_or l.totals k 0 ≡ total before.sizes k;
    }
