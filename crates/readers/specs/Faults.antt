-- What each fault of a reader tells. Assumes nothing.
use Rattle.refusals.specs.declared.Layer.TheVariants.{ReaderOpened, EachRecord}
use Rattle.refusals.specs.declared.Refusal.{Refusal}
use Rattle.refusals.specs.Told.{refused}
use Rattle.readers.specs.declared.fault.OpenFault.{OpenFault}
use Rattle.readers.specs.declared.fault.OpenFault.TheVariants.{TooShort, NotDkif, NotStsz, IvfVersion, IvfHeaderLength, BoxVersion, CommonSize, BoxSize}
use Rattle.readers.specs.declared.fault.RecordFault.{RecordFault}
use Rattle.readers.specs.declared.fault.RecordFault.TheVariants.{HeaderCut, TooLarge, DataCut}

abbrev pub open_refusal : OpenFault → Refusal
open_refusal (TooShort length) = refused ReaderOpened 10 length
open_refusal NotDkif = refused ReaderOpened 11 0
open_refusal NotStsz = refused ReaderOpened 11 4
open_refusal IvfVersion = refused ReaderOpened 12 4
open_refusal IvfHeaderLength = refused ReaderOpened 12 6
open_refusal BoxVersion = refused ReaderOpened 12 8
open_refusal CommonSize = refused ReaderOpened 15 12
open_refusal BoxSize = refused ReaderOpened 14 0

abbrev pub record_refusal : RecordFault → Refusal
record_refusal (HeaderCut place) = refused EachRecord 13 place
record_refusal (TooLarge place) = refused EachRecord 15 place
record_refusal (DataCut place) = refused EachRecord 13 place
