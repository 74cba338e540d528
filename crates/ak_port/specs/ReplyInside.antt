-- What contracts see of a reply book, and what is true of its fields.
use Rattle.std.specs.Prelude.{◌≡◌, List, vec_len, vec_capacity}
use Rattle.ak_port.specs.declared.reply_book.ReplyBook.TheInside.{Inside}
use Rattle.ak_port.specs.declared.reply_entry.ReplyEntry.{ReplyEntry}
use Rattle.ak_port.specs.Reply.{none_text}
use Rattle.ak_port.specs.ReplyKept.{entries_seen, Told, HasRoom}

abbrev pub entries_inside : Inside → List ReplyEntry
entries_inside b = entries_seen b.store.items b.entries.items

pub record IsSound (b : Inside) : Type 0 where
  pub told : Told b.store.items b.entries.items b.slots.items b.waiting b.filled
  pub room : HasRoom (vec_len b.entries) (vec_capacity b.entries) (vec_len b.store) (vec_capacity b.store) b.waiting b.filled
  pub none : b.none ≡ none_text
