-- What the header that the reader found says.
use Rattle.product_list.specs.declared.list.Header.{Header as HeaderFound}
use Rattle.product_list.specs.ListText.{Header}

abbrev pub header_said : HeaderFound → Header
header_said h = record { two = h.two; qubits = h.qubits }
