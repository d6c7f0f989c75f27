-- A handle may go to another thread, since the picker may.
use denote.Struct.Struct.{exits_of}
use denote.Struct.Owning.{shape, fields, to}
use denote.Param.Send.{IsSend, AllSend, owning_send, struct_send, sendable}
use Rattle.std_alloc.proofs.SendSync.{quiet}
use Rattle.bt_c.specs.contracts.picker_handle.PickerHandle.{the_row as R}
use Rattle.bt_c.specs.contracts.picker_pointer.PickerPointer as handle
use Rattle.bt_c.proofs.picker_handle.PickerHandle.TheSendSync.{the_send}
use Rattle.bt_c.proofs.Crossings.{owns-Keyless}

pub send : IsSend handle.the_row
send = let O = handle.the_type in let all : AllSend (fields O) = search sendable in
    owning_send O all (λ d. owns-Keyless R the_send d.at d.alloc d.picker)
    (λ k. quiet (to O) (exits_of k (fields O)) ((struct_send (shape O) all).leaving k))
