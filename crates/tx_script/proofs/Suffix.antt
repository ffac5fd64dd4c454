-- What stands behind the name of an output in that of its report is ASCII.
use Rattle.std.proofs.Common.{◌≡◌, true, nat_lt, refl}
use Rattle.std.specs.Str.{chars}
use Rattle.std.specs.List.{list_all}
use Rattle.std.proofs.lemmas.Str.{chars-IsAscii}
use Rattle.std.proofs.lemmas.Str.Ascii.{IsAscii-from_all}
use Rattle.std.proofs.lemmas.List.Sums.{AllPass-from_list_all}
use Rattle.std.proofs.lemmas.Bool.{ltb-true}
use Rattle.tx_script.specs.Checks.{report_suffix}

all_ascii : list_all (λ c. nat_lt c 128) report_suffix ≡ true
all_ascii = refl

pub suffix_is : chars report_suffix ≡ report_suffix
suffix_is = chars-IsAscii report_suffix (IsAscii-from_all report_suffix (λ k d l. ltb-true _ 128 (AllPass-from_list_all (λ c. nat_lt c 128) report_suffix all_ascii k d l)))
