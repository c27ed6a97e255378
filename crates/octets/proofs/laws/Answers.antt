use Rattle.octets.proofs.Bytes.{bytes-append, bytes-filled}
use Rattle.octets.proofs.Numbers.{length-le, length-be, bytes_le, bytes-be, le_value_le, be_value_be, le_le_value, be_be_value, le_once, be_once}
use Rattle.octets.proofs.Same.{same_is, is_same}
use Rattle.octets.proofs.Xor.{xor-twice, xor_at-twice, length-xor, length-xor_at, bytes-xor, bytes-xor_at}
use Rattle.octets.proofs.Slices.{length-filled}
use Rattle.octets.proofs.laws.Goals as goal

pub returns : goal.returns
returns c = record {
  undone = xor-twice;
  undone_at = xor_at-twice;
  xor_length = length-xor;
  xor_at_length = length-xor_at;
  le_length = length-le;
  be_length = length-be;
  filled_length = length-filled;
  xor_bytes = bytes-xor;
  xor_at_bytes = bytes-xor_at;
  join_bytes = bytes-append;
  le_bytes = bytes_le;
  be_bytes = bytes-be;
  filled_bytes = bytes-filled;
  le_value_le = le_value_le;
  be_value_be = be_value_be;
  le_le_value = le_le_value;
  be_be_value = be_be_value;
  be_once = be_once;
  le_once = le_once;
  same_is = same_is;
  is_same = is_same;
}
