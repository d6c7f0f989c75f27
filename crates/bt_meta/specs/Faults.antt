-- The faults of a metainfo file.
use Rattle.std.specs.Prelude.{ℕ}
use Rattle.bt_bencode.specs.declared.fault.BenFault.{BenFault}
use Rattle.bt_bencode.specs.declared.fault.BenFault.TheVariants as bencode
use Rattle.bt_meta.specs.declared.fault.MetaFault.{MetaFault}
use Rattle.bt_meta.specs.declared.fault.MetaFault.TheVariants.{Bencode, NotDictionary, Missing, WrongKind, PieceLength, PiecesLength}
use Rattle.bt_meta.specs.declared.fault.MetaFault.TheVariants.{BothLengthAndFiles, NoContent, CountMismatch, TooLarge, NoMemory}

-- the numbers by which programs report faults
abbrev pub fault_number : MetaFault → ℕ
fault_number (Bencode fault) = 1
fault_number NotDictionary = 2
fault_number (Missing key) = 3
fault_number (WrongKind key) = 4
fault_number PieceLength = 5
fault_number PiecesLength = 6
fault_number BothLengthAndFiles = 7
fault_number NoContent = 8
fault_number CountMismatch = 9
fault_number TooLarge = 10
fault_number NoMemory = 11

-- a fault of bencode as one of the file; want of memory is want of memory
abbrev pub of_bencode : BenFault → MetaFault
of_bencode bencode.NoMemory = NoMemory
of_bencode fault = Bencode fault
