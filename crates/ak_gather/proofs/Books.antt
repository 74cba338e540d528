-- The ports and the desks of the loopers, one after another.
use Rattle.std.proofs.Common.{◌≡◌, suc, List, [], ◌∷◌, ◌++◌, length, All, refl, sym, ap, subst, append_assoc, append-nil}
use Rattle.std.proofs.lemmas.List.Elements.{All-cons, All-nil}
use Rattle.ak_port.specs.PortCalls.{IsPortBook, PortData}
use Rattle.ak_desk.specs.Desk.{DeskData}
use Rattle.ak_diary.specs.Histories.{IsDeskBook}
use Rattle.ak_gather.specs.declared.gathering.Joined.{Joined}
use Rattle.ak_gather.specs.Gathering.{AreBooksOf, IsDeskOf, IsPortOf}

-- ---- these ports and desks, and any that are those of the rest, are those of all
abbrev pub BooksFront : List Joined → List Joined → List PortData → List DeskData → Type 0
BooksFront all rest ports desks = (ps : List PortData) (ds : List DeskData) → AreBooksOf rest ps ds → AreBooksOf all (ports ++ ps) (desks ++ ds)

-- none so far
pub books_none : (all : List Joined) (ports : List PortData) (desks : List DeskData) → ports ≡ [] → desks ≡ [] → BooksFront all all ports desks
books_none all ports desks no_ports no_desks ps ds books =
    subst (λ (l : List DeskData). AreBooksOf all (ports ++ ps) (l ++ ds)) (sym no_desks) (subst (λ (l : List PortData). AreBooksOf all (l ++ ps) ds) (sym no_ports) books)

-- one more of each
pub books_more : (all rest : List Joined) (j : Joined) (ports : List PortData) (desks : List DeskData) (port : PortData) (desk : DeskData) → BooksFront all (j ∷ rest) ports desks → IsPortOf j.door.port_seat port
    → IsDeskOf j.door.desk_seat desk → BooksFront all rest (ports ++ port ∷ []) (desks ++ desk ∷ [])
books_more all rest j ports desks port desk front at_port at_desk ps ds books =
    subst (λ (l : List DeskData). AreBooksOf all ((ports ++ port ∷ []) ++ ps) l) (sym (append_assoc desks (desk ∷ []) ds))
    (subst (λ (l : List PortData). AreBooksOf all l (desks ++ desk ∷ ds)) (sym (append_assoc ports (port ∷ []) ps)) (front (port ∷ ps) (desk ∷ ds) ((at_port, at_desk), books)))

-- all of them
pub books_all : (all : List Joined) (ports : List PortData) (desks : List DeskData) → BooksFront all [] ports desks → AreBooksOf all ports desks
books_all all ports desks front =
    subst (λ (l : List DeskData). AreBooksOf all ports l) (append-nil desks) (subst (λ (l : List PortData). AreBooksOf all l (desks ++ [])) (append-nil ports) (front [] [] tt))

-- ---- what is true of the books of all
pub as_many_ports : (js : List Joined) (ports : List PortData) (desks : List DeskData) → AreBooksOf js ports desks → length ports ≡ length js
as_many_ports [] [] [] books = refl
as_many_ports (j ∷ js) (port ∷ ports) (desk ∷ desks) books = ap suc (as_many_ports js ports desks books.1)
as_many_ports [] [] (desk ∷ desks) books = absurd books
as_many_ports [] (port ∷ ports) desks books = absurd books
as_many_ports (j ∷ js) [] desks books = absurd books
as_many_ports (j ∷ js) (port ∷ ports) [] books = absurd books

pub as_many_desks : (js : List Joined) (ports : List PortData) (desks : List DeskData) → AreBooksOf js ports desks → length desks ≡ length js
as_many_desks [] [] [] books = refl
as_many_desks (j ∷ js) (port ∷ ports) (desk ∷ desks) books = ap suc (as_many_desks js ports desks books.1)
as_many_desks [] [] (desk ∷ desks) books = absurd books
as_many_desks [] (port ∷ ports) desks books = absurd books
as_many_desks (j ∷ js) [] desks books = absurd books
as_many_desks (j ∷ js) (port ∷ ports) [] books = absurd books

pub all_ports : (js : List Joined) (ports : List PortData) (desks : List DeskData) → AreBooksOf js ports desks → All IsPortBook ports
all_ports [] [] [] books = All-nil IsPortBook
all_ports (j ∷ js) (port ∷ ports) (desk ∷ desks) books = All-cons IsPortBook port ports books.0.0.legal (all_ports js ports desks books.1)
all_ports [] [] (desk ∷ desks) books = absurd books
all_ports [] (port ∷ ports) desks books = absurd books
all_ports (j ∷ js) [] desks books = absurd books
all_ports (j ∷ js) (port ∷ ports) [] books = absurd books

pub all_desks : (js : List Joined) (ports : List PortData) (desks : List DeskData) → AreBooksOf js ports desks → All IsDeskBook desks
all_desks [] [] [] books = All-nil IsDeskBook
all_desks (j ∷ js) (port ∷ ports) (desk ∷ desks) books = All-cons IsDeskBook desk desks books.0.1.legal (all_desks js ports desks books.1)
all_desks [] [] (desk ∷ desks) books = absurd books
all_desks [] (port ∷ ports) desks books = absurd books
all_desks (j ∷ js) [] desks books = absurd books
all_desks (j ∷ js) (port ∷ ports) [] books = absurd books
