use Rattle.std.proofs.Common.{◌≡◌, ◌^◌, ◌<◌, true, take, drop}
use Rattle.std.specs.Char.{is_ascii_digit}
use Rattle.std.specs.List.{list_all}
use Rattle.forms.specs.Decimals.{valued}
use Rattle.collating.proofs.fields.decimal.Given as goal

abbrev pub invariant-loop-c : goal.invariant-loop-c
invariant-loop-c l = record {
  small : l.value < 10 ^ l.c-index;
  value : valued 0 l.word ≡ valued l.value (drop l.c-index l.word);
  digits : list_all is_ascii_digit (take l.c-index l.word) ≡ true;
}
