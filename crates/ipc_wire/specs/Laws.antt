-- What is true of the bytes of all requests.
use Rattle.std.specs.Prelude.{◌≡◌, ℕ, List, Some}
use Rattle.ipc_wire.specs.declared.requests.Message.{Message}
use Rattle.ipc_wire.specs.Ranges.{AreBytes, MessageFits}
use Rattle.ipc_wire.specs.Requests.{decode, encode}

-- the bytes of a message are read as that message
abbrev pub IsReadBack : Type 0
IsReadBack = (m : Message) → MessageFits m → decode (encode m) ≡ Some m

-- what is read as a message are its bytes, and no others
abbrev pub HasOneEncoding : Type 0
HasOneEncoding = (bytes : List ℕ) (m : Message) → AreBytes bytes → decode bytes ≡ Some m → encode m ≡ bytes
