-- Refusals by their numbers, names and places.
use Rattle.std.specs.Prelude.{ℕ, List, Option, Some, None, codes}
use Rattle.vg_text.specs.declared.place.Place.{Place}
use Rattle.vg_pseudo.specs.declared.fault.PseudoFault.{PseudoFault}
use Rattle.vg_pseudo.specs.declared.fault.PseudoFault.TheVariants as pseudo
use Rattle.vg_interval.specs.declared.fault.RangeFault.{RangeFault}
use Rattle.vg_interval.specs.declared.fault.RangeFault.TheVariants as range
use Rattle.vg_catalog.specs.declared.fault.CatalogFault.{CatalogFault}
use Rattle.vg_catalog.specs.declared.fault.CatalogFault.TheVariants.{Token, Shape, NestingTooDeep, UnknownName, IndexOutside, DynamicIndex, TooWide, TooLong, BadExtend, BareRegister, Header, DuplicateName, TooMany, ExtensionUnknown, TooLarge, Memory}

-- the number of a refusal; want of memory has none
abbrev pub number_of_fault : CatalogFault → Option ℕ
number_of_fault (Token p) = Some 1
number_of_fault (Shape p) = Some 2
number_of_fault (NestingTooDeep p) = Some 3
number_of_fault (UnknownName p) = Some 4
number_of_fault (IndexOutside p) = Some 5
number_of_fault (DynamicIndex p) = Some 6
number_of_fault (TooWide p) = Some 8
number_of_fault (TooLong p) = Some 9
number_of_fault (BadExtend p) = Some 10
number_of_fault (BareRegister p) = Some 11
number_of_fault (Header p) = Some 12
number_of_fault (DuplicateName p) = Some 13
number_of_fault (TooMany p) = Some 14
number_of_fault (ExtensionUnknown p) = Some 15
number_of_fault (TooLarge p) = Some 16
number_of_fault (Memory e) = None

-- the number and the name of a refusal, as `12 Header`
abbrev pub name_of_fault : CatalogFault → List ℕ
name_of_fault (Token p) = codes "1 Token"
name_of_fault (Shape p) = codes "2 Shape"
name_of_fault (NestingTooDeep p) = codes "3 NestingTooDeep"
name_of_fault (UnknownName p) = codes "4 UnknownName"
name_of_fault (IndexOutside p) = codes "5 IndexOutside"
name_of_fault (DynamicIndex p) = codes "6 DynamicIndex"
name_of_fault (TooWide p) = codes "8 TooWide"
name_of_fault (TooLong p) = codes "9 TooLong"
name_of_fault (BadExtend p) = codes "10 BadExtend"
name_of_fault (BareRegister p) = codes "11 BareRegister"
name_of_fault (Header p) = codes "12 Header"
name_of_fault (DuplicateName p) = codes "13 DuplicateName"
name_of_fault (TooMany p) = codes "14 TooMany"
name_of_fault (ExtensionUnknown p) = codes "15 ExtensionUnknown"
name_of_fault (TooLarge p) = codes "16 TooLarge"
name_of_fault (Memory e) = codes "memory"

-- the place of a refusal
abbrev pub place_of_fault : CatalogFault → Option Place
place_of_fault (Token p) = Some p
place_of_fault (Shape p) = Some p
place_of_fault (NestingTooDeep p) = Some p
place_of_fault (UnknownName p) = Some p
place_of_fault (IndexOutside p) = Some p
place_of_fault (DynamicIndex p) = Some p
place_of_fault (TooWide p) = Some p
place_of_fault (TooLong p) = Some p
place_of_fault (BadExtend p) = Some p
place_of_fault (BareRegister p) = Some p
place_of_fault (Header p) = Some p
place_of_fault (DuplicateName p) = Some p
place_of_fault (TooMany p) = Some p
place_of_fault (ExtensionUnknown p) = Some p
place_of_fault (TooLarge p) = Some p
place_of_fault (Memory e) = None

-- what a fault of an operation text is of a file
abbrev pub text_fault : PseudoFault → CatalogFault
text_fault (pseudo.Token p) = Token p
text_fault (pseudo.Shape p) = Shape p
text_fault (pseudo.NestingTooDeep p) = NestingTooDeep p
text_fault (pseudo.Memory e) = Memory e

-- what a fault of judging is of a file
abbrev pub range_fault : RangeFault → CatalogFault
range_fault (range.UnknownName p) = UnknownName p
range_fault (range.IndexOutside p) = IndexOutside p
range_fault (range.DynamicIndex p) = DynamicIndex p
range_fault (range.TooWide p) = TooWide p
range_fault (range.TooLong p) = TooLong p
range_fault (range.BadExtend p) = BadExtend p
range_fault (range.BareRegister p) = BareRegister p
range_fault (range.Memory e) = Memory e
