-- How a command ends: the exit status, and the line on standard error.
use Rattle.std.specs.Prelude.{ℕ, List, ◌++◌, codes}
use Rattle.std.specs.Fmt.{decimal}
use Rattle.bt_meta.specs.declared.fault.BitFault.{BitFault}
use Rattle.bt_meta.specs.declared.fault.BitFault.TheVariants as bitfault
use Rattle.bt_meta.specs.declared.fault.MetaFault.{MetaFault}
use Rattle.bt_meta.specs.declared.fault.MetaFault.TheVariants.{NoMemory}
use Rattle.bt_meta.specs.Faults.{fault_number}
use Rattle.bt_shared.specs.declared.gather.GatherFault.{GatherFault}
use Rattle.bt_shared.specs.declared.gather.GatherFault.TheVariants as gathers
use Rattle.bt_text.specs.declared.fault.Fault.{Fault}
use Rattle.bt_text.specs.declared.fault.Fault.TheVariants.{Line, Metainfo, Want, Random, File, Memory, NoThread, Gather}

-- the exit status; that of a command that is done is 0
abbrev pub status_of : Fault → ℕ
status_of (Line number) = 2
status_of (Metainfo fault) = 3
status_of (Want fault) = 2
status_of Random = 2
status_of File = 4
status_of Memory = 5
status_of NoThread = 5
status_of (Gather fault) = 6

-- the number of a fault of a bitfield
abbrev pub bit_fault_number : BitFault → ℕ
bit_fault_number bitfault.WrongCount = 1
bit_fault_number bitfault.SpareBits = 2
bit_fault_number bitfault.NoMemory = 3

-- the number of a fault of gathering
abbrev pub gather_fault_number : GatherFault → ℕ
gather_fault_number (gathers.PassMissing held journal) = 1
gather_fault_number (gathers.LogsDiffer worker place) = 2
gather_fault_number (gathers.BoardDiffers piece) = 3
gather_fault_number gathers.NoMemory = 4

-- the line on standard error, without its end
abbrev pub fault_text : Fault → List ℕ
fault_text (Line number) = codes "line " ++ decimal number
fault_text (Metainfo fault) = codes "metainfo fault " ++ decimal (fault_number fault)
fault_text (Want fault) = codes "want fault " ++ decimal (bit_fault_number fault)
fault_text Random = codes "random fault"
fault_text File = codes "file fault"
fault_text Memory = codes "memory"
fault_text NoThread = codes "no thread"
fault_text (Gather fault) = codes "gather fault " ++ decimal (gather_fault_number fault)

-- a fault of a metainfo file as one of the command; want of memory is want of memory
abbrev pub of_metainfo : MetaFault → Fault
of_metainfo NoMemory = Memory
of_metainfo fault = Metainfo fault

-- a fault of the set of pieces that are to be downloaded, as one of the command; want of memory is want of memory
abbrev pub of_want : BitFault → Fault
of_want bitfault.NoMemory = Memory
of_want fault = Want fault

-- a fault of gathering as one of the command; want of memory is want of memory
abbrev pub of_gather : GatherFault → Fault
of_gather gathers.NoMemory = Memory
of_gather fault = Gather fault
