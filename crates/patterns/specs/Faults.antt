-- What a fault of a pattern or a live camera tells. Assumes nothing.
use Rattle.refusals.specs.declared.Layer.TheVariants.{PatternLive}
use Rattle.refusals.specs.declared.Refusal.{Refusal}
use Rattle.refusals.specs.Told.{refused}
use Rattle.patterns.specs.declared.fault.PatternFault.{PatternFault}
use Rattle.patterns.specs.declared.fault.PatternFault.TheVariants.{Group, Size, Slots}

abbrev pub pattern_refusal : PatternFault → Refusal
pattern_refusal (Group given) = refused PatternLive 23 given
pattern_refusal (Size place) = refused PatternLive 24 place
pattern_refusal (Slots given) = refused PatternLive 25 given
