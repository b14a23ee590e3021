-- The laws that crates above cite.
use Rattle.product_list.specs.Laws.{DeclaredMore, ListOrFault, PrintedIsRead, ReadIsListable}
use Rattle.product_list.proofs.Answered as answered
use Rattle.product_list.proofs.Declared as declared
use Rattle.product_list.proofs.Formed.{list_listable}
use Rattle.product_list.proofs.ReadBack.{listed_back}

pub read_listable : ReadIsListable
read_listable = list_listable

pub printed_read : PrintedIsRead
printed_read = listed_back

pub declared_more : DeclaredMore
declared_more = declared.declared_more

pub list_or_fault : ListOrFault
list_or_fault = answered.list_or_fault
