-- `deoxys_ii::encrypt_decrypt_message` meets its contract: what is still to do of the buffer, from where the loop stands,
-- gives what there was to do at first.
-- Assumes nothing.
use Rattle.std.proofs.Common.{◌≡◌, ◌+◌, length}
use Rattle.octets.specs.Octets.{◌⊕◌}
use Rattle.modes.specs.Rows.{blocks}
use Rattle.deoxys_ii.specs.DeoxysII.{keystream_from, given}
use Rattle.deoxys_ii.proofs.Keystream.{Streaming}
use Rattle.deoxys_ii.proofs.encrypt_decrypt_message.Given as goal

abbrev pub invariant-loop-j : goal.invariant-loop-j
invariant-loop-j l = record {
  left : Streaming l.k l.tag l.nonce (blocks l.initial.buffer) l.j l.buffer l.running.rows
      (l.initial.buffer ⊕ given (keystream_from l.k l.tag l.nonce (blocks l.initial.buffer) 0))
      (l.initial.running.rows + length (keystream_from l.k l.tag l.nonce (blocks l.initial.buffer) 0));
  size : length l.buffer ≡ length l.initial.buffer;
  counted : l.running.rows ≡ l.initial.running.rows + l.j;
}
