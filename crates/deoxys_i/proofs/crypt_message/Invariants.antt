-- `deoxys_i::crypt_message` meets its contract: what is still to do of the buffer, from where the loop stands, gives
-- what there was to do at first.
-- Assumes nothing.
use Rattle.std.proofs.Common.{◌≡◌, ◌+◌, length}
use Rattle.deoxys_i.specs.Direction.{direction}
use Rattle.deoxys_i.specs.DeoxysI.{message_rows, text_of}
use Rattle.deoxys_i.proofs.Message.{Crypting}
use Rattle.deoxys_i.proofs.crypt_message.Given as goal

abbrev pub invariant-loop-i : goal.invariant-loop-i
invariant-loop-i l = record {
  left : Crypting (direction l.opening l.k) l.k l.nonce l.first l.n l.i l.buffer l.running.rows
      (text_of l.n (message_rows (direction l.opening l.k) l.k l.nonce l.n l.first l.initial.buffer) l.initial.buffer)
      (l.initial.running.rows + length (message_rows (direction l.opening l.k) l.k l.nonce l.n l.first l.initial.buffer));
  size : length l.buffer ≡ length l.initial.buffer;
  counted : l.running.rows ≡ l.initial.running.rows + l.i;
}
