-- The numbers of the faults.
use Rattle.std.specs.Prelude.{ℕ, ◌+◌}
use Rattle.bt_meta.specs.declared.fault.MetaFault.{MetaFault}
use Rattle.bt_meta.specs.declared.fault.MetaFault.TheVariants as metainfo
use Rattle.bt_meta.specs.Faults as meta
use Rattle.bt_c.specs.declared.engine.Untold.{Untold}
use Rattle.bt_c.specs.declared.engine.Untold.TheVariants as untold
use Rattle.bt_c.specs.declared.fault.Fault.{Fault}
use Rattle.bt_c.specs.declared.fault.Fault.TheVariants.{Closed, Open, Worker, Piece, BitsLength, SpareBits, Room, NoMemory, Incomplete, Rules, NotWaiting}
use Rattle.bt_c.specs.declared.fault.Fault.TheVariants.{NoJob, NotHashed, Place, Keeps, Options, Stale, Block, NotHeld, Begun, File, Part, Metainfo}

-- the status that tells a fault; 0 tells that there was none
abbrev pub fault_number : Fault → ℕ
fault_number Closed = 1
fault_number Open = 2
fault_number Worker = 3
fault_number Piece = 4
fault_number BitsLength = 5
fault_number SpareBits = 6
fault_number Room = 7
fault_number NoMemory = 8
fault_number Incomplete = 9
fault_number Rules = 10
fault_number NotWaiting = 11
fault_number NoJob = 12
fault_number NotHashed = 13
fault_number Place = 14
fault_number Keeps = 15
fault_number Options = 16
fault_number Stale = 17
fault_number Block = 18
fault_number NotHeld = 19
fault_number Begun = 20
fault_number File = 21
fault_number Part = 22
fault_number (Metainfo f) = 100 + meta.fault_number f

-- a fault of a metainfo file as one of a call; want of memory is want of memory
abbrev pub of_metainfo : MetaFault → Fault
of_metainfo metainfo.NoMemory = NoMemory
of_metainfo fault = Metainfo fault

-- why a picker answered nothing, as a fault of a call
abbrev pub of_untold : Untold → Fault
of_untold untold.NoMemory = NoMemory
of_untold untold.Journal = Keeps
