-- What is shown of a refusal.
use Rattle.std.specs.Prelude.{ℕ, List, codes, ◌++◌}
use Rattle.std.specs.Fmt.{decimal}
use Rattle.ak_base.specs.declared.ending.RefusalKind.{RefusalKind}
use Rattle.ak_base.specs.declared.ending.RefusalKind.TheVariants as refusal

abbrev pub text_of : RefusalKind → List ℕ
text_of refusal.InputTooLong = codes "input too long"
text_of refusal.NotUtf8 = codes "not UTF-8"
text_of refusal.BadWord = codes "bad word"
text_of refusal.UnknownLine = codes "unknown line"
text_of (refusal.BadHey column) = codes "bad hey at " ++ decimal column
text_of refusal.BadValue = codes "bad value"
text_of refusal.NameInUse = codes "name in use"
text_of refusal.Limit = codes "limit"
text_of refusal.Unfinished = codes "unfinished"
text_of refusal.UnknownName = codes "unknown name"
text_of refusal.ChainLoop = codes "chain loop"
text_of refusal.AskOrder = codes "ask order"
